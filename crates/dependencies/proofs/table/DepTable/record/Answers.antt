use Rattle.std.proofs.Common.{◌≡◌, ◌<◌, ◌≤◌, ℕ, Fits, w32, sym, ap, subst, arith}
use Rattle.std.proofs.Math.Facts.{Fits-below}
use Rattle.dependencies.specs.Tables.{Listing, EndBelow}
use Rattle.dependencies.specs.Entries.{listing_of}
use Rattle.dependencies.proofs.Noting.{noted_table, noted_small}
use Rattle.dependencies.proofs.table.DepTable.record.Goals as goal

below : (c : goal.After-record) → EndBelow (listing_of c.self.inside.entries) c.args.place
below c = subst (λ (listing : Listing). EndBelow listing c.args.place) (sym (ap (λ t. t.shown) c.self.view_is)) c.requires.below

pub record-requires-clause-below : goal.record-requires-clause-below
record-requires-clause-below c = subst (λ (listing : Listing). EndBelow listing c.args.place) (sym (ap (λ t. t.shown) c.self.view_is)) c.requires.below

fits : (n p q : ℕ) → n ≤ p → q ≡ p → q < 4294967296 → Fits w32 n
fits n p q l e h = Fits-below {w = w32} {m = n} {n = 4294967295} tt (omega arith)

pub overflow_cast-result : goal.overflow_cast-result
overflow_cast-result c =
    fits _ _ _ (noted_small _ _ _ _ _ c.self.invariant.0 (below c) c.record.ensures.noted) c.get-index.ensures c.get-index.type_inv

pub invariant_of-self : goal.invariant_of-self
invariant_of-self c = (
  noted_table _ _ _ _ _ c.self.invariant.0 (below c) (omega (arith, c.get-index.ensures, c.get-index.type_inv)) c.record.ensures.noted,
  c.record.ensures.kept,
)
