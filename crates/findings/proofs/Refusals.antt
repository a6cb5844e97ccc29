-- The reasons of refusals are distinct.
use Rattle.std.proofs.Common.{◌≡◌, Result, Ok, Err}
use Rattle.findings.specs.declared.computing.ComputeRefused.{ComputeRefused}
use Rattle.findings.specs.declared.computing.ComputeRefused.TheVariants.{TooManyCycles, NoMemory}

pub found_not_refused : {A : Type 0} (found : A) (r : ComputeRefused) → ◌≡◌ {A = Result A ComputeRefused} (Ok found) (Err r) → ⊥
found_not_refused found r h = absurd cc

pub lacking_not_many : {A : Type 0} → ◌≡◌ {A = Result A ComputeRefused} (Err NoMemory) (Err TooManyCycles) → ⊥
lacking_not_many h = absurd cc

pub same_refusal : {A : Type 0} (r q : ComputeRefused) → ◌≡◌ {A = Result A ComputeRefused} (Err r) (Err q) → r ≡ q
same_refusal r q h = cc
