use Rattle.std.proofs.Common.{◌≡◌, ℕ, ◌-◌, ◌<◌, ◌≤◌, List, IfOk, length, take, drop, subst, arith}
use Rattle.std.specs.Io.KnownBytes.{Appends}
use Rattle.std.proofs.lemmas.List.{length-drop, take_all}
use Rattle.sessions.proofs.streams.write_from.Goals as goal

pub returns : goal.returns
returns g c =
    let bytes = c.args.bytes.now in
    let start = c.args.start in
    let result = c.write_some.result in
    let rest : take (length bytes - start) (drop start bytes) ≡ drop start bytes = take_all (length bytes - start) (drop start bytes) (omega (arith, length-drop start bytes)) in
    record {
      count = subst (λ (xs : List ℕ). IfOk result (λ n. (0 < n) × (n ≤ length xs))) rest c.write_some.ensures.count;
      bytes = subst (λ (xs : List ℕ). IfOk result (λ n. Appends (g.O.Write.contents c.args.writer.now) (g.O.Write.contents c.write_some.new.writer) (take n xs))) rest c.write_some.ensures.bytes;
      err = c.write_some.ensures.err;
    }
