use Rattle.std.proofs.Common.{refl, subst, slice_index_or}
use Rattle.std.proofs.lemmas.Option.{slice_get-get_or}
use Rattle.fronts.specs.Slots.{slots_of}
use Rattle.fronts.specs.Members.{Advances}
use Rattle.fronts.proofs.members.move_one.Goals as goal

pub advance-requires-clause-member : goal.advance-requires-clause-member
advance-requires-clause-member c =
    let xs = c.args.members.now in
    let d = c.index-members-k.result in
    c.requires.members c.args.k (slice_index_or xs c.args.k d) (slice_get-get_or xs c.args.k d c.requires.within)

pub returns-then-advance : goal.returns-then-advance
returns-then-advance c =
    let xs = c.args.members.now in
    let x = slice_index_or xs c.args.k c.index-members-k.result in
    let y = c.advance.new.self in (
      record {
        x = x;
        y = y;
        at = slice_get-get_or xs c.args.k c.index-members-k.result c.requires.within;
        new_at = refl;
        advances = subst (λ b. Advances c.args.index.now.events (slots_of c.args.threads.now) c.args.count b x y) c.if-advance.true c.advance.ensures;
      },
      refl,
    )

pub returns-else-advance : goal.returns-else-advance
returns-else-advance c =
    let xs = c.args.members.now in
    let x = slice_index_or xs c.args.k c.index-members-k.result in
    let y = c.advance.new.self in
    record {
      x = x;
      y = y;
      at = slice_get-get_or xs c.args.k c.index-members-k.result c.requires.within;
      new_at = refl;
      advances = subst (λ b. Advances c.args.index.now.events (slots_of c.args.threads.now) c.args.count b x y) c.if-advance.false c.advance.ensures;
    }
