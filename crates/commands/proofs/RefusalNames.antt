-- Each refusal has its name.
use Rattle.std.proofs.Common.{◌≡◌, Some, refl}
use Rattle.trace_model.specs.declared.refusal.Refusal.{Refusal}
use Rattle.trace_model.specs.declared.refusal.Refusal.TheVariants.{Full, Unforked, Ended, AlreadyForked, TooManyThreads, JoinsItself, JoinUnknown, JoinedTwice, TooNested, HeldByOther, TooDeep, NotHeld, NoMemory, BadBound, TooManyQuestions, NoSuchQuestion, ReportTooLong, NoSuchTask, Double, OtherBound, OtherTrace, BoardBusy, TooManyCycles}
use Rattle.trace_model.specs.Protocol.Refusals.{number_of, name_of, refusal_name}

pub named : (r : Refusal) → refusal_name (number_of r) ≡ Some (name_of r)
named Full = refl
named Unforked = refl
named Ended = refl
named AlreadyForked = refl
named TooManyThreads = refl
named JoinsItself = refl
named JoinUnknown = refl
named JoinedTwice = refl
named TooNested = refl
named HeldByOther = refl
named TooDeep = refl
named NotHeld = refl
named NoMemory = refl
named BadBound = refl
named TooManyQuestions = refl
named NoSuchQuestion = refl
named ReportTooLong = refl
named NoSuchTask = refl
named Double = refl
named OtherBound = refl
named OtherTrace = refl
named BoardBusy = refl
named TooManyCycles = refl
