-- Links between the entries that pass a test.
use Rattle.std.specs.Prelude.{◌≡◌, ℕ, zero, suc, ◌<◌, ◌≤◌, true, if◌then◌else◌}
use Rattle.trace_model.specs.Theory.Trace.{last_place}
use Rattle.trace_model.specs.Theory.Closure.{Places}
use Rattle.segments.specs.declared.links.link.Link.{Link}

-- The number of entries below n that pass.
abbrev pub count_below : Places → ℕ → ℕ
count_below test zero = 0
count_below test (suc n) = if test n then suc (count_below test n) else count_below test n

-- The link of entry i: the count of earlier passing entries, the last of them, and a passing entry
-- further back.
pub record IsLink (test : Places) (i : ℕ) (link : Link) : Type 0 where
  pub number_is : link.number ≡ count_below test i
  pub earlier_is : link.earlier ≡ last_place test i
  pub jump_within : link.jump ≤ i
  pub jump_passes : link.jump < i → test link.jump ≡ true
