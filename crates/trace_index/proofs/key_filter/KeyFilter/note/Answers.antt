use Rattle.std.proofs.Common.{◌≡◌, true, subst, arith}
use Rattle.trace_index.specs.KeyFilter.{cache_number}
use Rattle.trace_index.proofs.Filtered.{bit_set, bits_stay, is_set, with_bit}
use Rattle.trace_index.proofs.key_filter.KeyFilter.note.Goals as goal

pub returns-clause-noted : goal.returns-clause-noted
returns-clause-noted c =
    let words = c.args.self.now.words in
    let n = c.cache_key-number.result in
    subst (λ k. is_set (with_bit words n) k ≡ true) c.cache_key-number.ensures (bit_set words n (omega arith))

pub returns-clause-kept : goal.returns-clause-kept
returns-clause-kept c = λ q h. bits_stay c.args.self.now.words c.cache_key-number.result (omega arith) (cache_number q) h
