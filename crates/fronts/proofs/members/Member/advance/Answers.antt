use Rattle.std.proofs.Common.{rules, refl, sym, ◌∙◌}
use Rattle.std.proofs.lemmas.Bool.{false≢true}
use Rattle.trace_model.proofs.Theory.Ascending.{contains_at}
use Rattle.fronts.specs.Slots.{slots_of}
use Rattle.fronts.proofs.SlotLemmas.{has_number}
use Rattle.fronts.proofs.members.Member.advance.Goals as goal

pub unwrap-self-requires : goal.unwrap-self-requires
unwrap-self-requires c =
    let m = c.args.self.now in
    let place = c.get-place.result in
    let slots = slots_of c.args.threads.now in
    let n = has_number c.args.index.now.events slots c.args.threads.now.count place m.slot c.requires.slots
    (c.requires.member.thread place (contains_at m.places place c.first_past-entry.result c.get-place.ensures)) in
    rw (c.number.ensures, n.1.number) (search rules)

pub returns-then-entry-len : goal.returns-then-entry-len
returns-then-entry-len c =
    let m = c.args.self.now in
    let place = c.get-place.result in
    let of_thread = c.requires.member.thread place (contains_at m.places place c.first_past-entry.result c.get-place.ensures) in
    record {
      same = record { places = refl; slot = refl };
      is_member = record {
        at = c.get-place.ensures;
        positions = record { slot = of_thread; number = sym c.number.ensures ∙ search rules };
        thread = c.requires.member.thread;
      };
      next = λ t. (c.first_past-entry.ensures.later, c.first_past-entry.ensures.passed);
      last = λ f. absurd (false≢true (sym f));
      ascends = c.len.ensures.ascends;
    }
