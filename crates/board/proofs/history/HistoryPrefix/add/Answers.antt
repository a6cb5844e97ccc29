use Rattle.std.proofs.Common.{◌++◌, ◌∷◌, [], sym, ◌∙◌, ap}
use Rattle.trace_model.specs.Protocol.Runs.{IsLegal}
use Rattle.board.proofs.Adding.{exchange_moves}
use Rattle.board.proofs.history.HistoryPrefix.add.Goals as goal

pub compare_exchange-found-requires : goal.compare_exchange-found-requires
compare_exchange-found-requires g c =
    let h = c.args.word.now.length_is in
    let offer = c.plain-offer.ensures in
    let pen = c.no_pen-pen.ensures in
    let may : IsLegal (c.self.inside.seen.log ++ c.args.step.now ∷ []) = rw c.self.view_is c.requires.legal in (
      ap (λ w. w.tracked) h,
      c.self.invariant.1 ∙ sym (ap (λ w. w.book) h),
      pen.0 ∙ (c.self.invariant.1 ∙ sym (ap (λ w. w.book) h)),
      offer.0,
      rw (ap (λ w. w.key) h, pen.1, offer.1, offer.3) (exchange_moves c.self.inside.seen.log c.args.step.now c.self.inside.count (sym c.self.invariant.0) may),
    )
