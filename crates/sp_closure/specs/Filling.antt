-- Timelines whose timestamps a scratch computes.
use Rattle.trace_model.specs.Theory.Trace.{Trace}
use Rattle.sp_closure.specs.declared.scratch.ClosureScratch.{ClosureScratch}
use Rattle.sp_closure.specs.declared.timelines.Timestamps.{Timestamps}
use Rattle.fronts.specs.declared.requirements.Requirements.{Requirements}
use Rattle.fronts.specs.Slots.{slots_of}
use Rattle.sp_closure.specs.Timestamps.{AreTimelines}
use Rattle.sp_closure.specs.Scratches.{IsScratch}

-- The scratch is one over this trace, and the timelines use its slots.
pub record IsFilling (s : Trace) (d : Requirements) (c : ClosureScratch)
    (timestamps : Timestamps) : Type 0 where
  pub scratch : IsScratch s d c
  pub timelines : AreTimelines s (slots_of d.threads) timestamps
