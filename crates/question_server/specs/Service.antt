-- The parameters of a server (this project's profile).
use Rattle.std.specs.Prelude.{ℕ, ◌≤◌}

-- the server may have this number of workers
abbrev pub IsWorkers : ℕ → Type 0
IsWorkers workers = (1 ≤ workers) × (workers ≤ 16)
