-- Positions of keys, and later places that replace earlier ones.
use Rattle.std.proofs.Common.{◌≡◌, ℕ, zero, suc, Bool, true, false, cond, List, [], ◌∷◌, take, slice_get, Option, Some, None, refl, sym, ap, ◌∙◌}
use Rattle.std.proofs.lemmas.Option.{none-some, same_Some}
use Rattle.std.specs.Option.{option_or}
use Rattle.std.specs.HashMap.{HashMap, get, Updates, IsUnique}
use Rattle.std.specs.Map.{keys_of, lookup}
use Rattle.indexmap.specs.IndexMap.{insert_entry, with_value_at}
use Rattle.indexmap.proofs.CallerLemmas.{updates-with_value_at}
use Rattle.number_map.proofs.Entries.{entry_at}
use Rattle.trace_index.specs.declared.row.Key.{Key}
use Rattle.trace_index.specs.contracts.row.KeyPartialEq.TheImpl.{eq-value}
use Rattle.trace_index.specs.Links.{same_key}
use Rattle.trace_index.specs.Positions.{HasKeyAt}
use Rattle.trace_index.proofs.Keys.{same, same_so, same_turned, get_same, keys_are}

-- an update of the hash map sets the place of one key
pub updated : {S : Type 0} → (m after : HashMap Key ℕ S) (key : Key) (place : ℕ) → Updates eq-value.it m after key (Some place) →
    (q : Key) → get same_key after q ≡ cond (same_key key q) (Some place) (get same_key m q)
updated m after key place update q =
    sym (get_same after q) ∙ update.0 q ∙ ap (λ b. cond b (Some place) (get eq-value.it m q)) (same key q) ∙ ap (cond (same_key key q) (Some place)) (get_same m q)

-- a write at the position of a key sets its place
pub written : {S : Type 0} → (m : HashMap Key ℕ S) (i : ℕ) (key : Key) (place : ℕ) → IsUnique eq-value.it m → HasKeyAt m key (Some i) →
    (q : Key) → get same_key (with_value_at m i place) q ≡ cond (same_key key q) (Some place) (get same_key m q)
written m i key place unique has =
    let e = entry_at m.entries i key (has.key_is i refl) in
    updated m (with_value_at m i place) key place (updates-with_value_at m i place keys_are unique key e.0 e.1)

-- an insertion keeps the positions of keys
pub insert_keeps : (es : List (Key × ℕ)) (k q : Key) (v i : ℕ) → slice_get (keys_of es) i ≡ Some q → slice_get (keys_of (insert_entry eq-value.it es k v)) i ≡ Some q
insert_keeps [] k q v i h = absurd (none-some q h)
insert_keeps (e ∷ es) k q v zero h = head (eq-value.it k e.0)
  where
    head : (b : Bool) → slice_get (keys_of (cond b ((e.0, v) ∷ es) (e ∷ insert_entry eq-value.it es k v))) zero ≡ Some q
    head true = h
    head false = h
insert_keeps (e ∷ es) k q v (suc i) h = rest (eq-value.it k e.0) (insert_keeps es k q v i h)
  where
    rest : (b : Bool) → slice_get (keys_of (insert_entry eq-value.it es k v)) i ≡ Some q → slice_get (keys_of (cond b ((e.0, v) ∷ es) (e ∷ insert_entry eq-value.it es k v))) (suc i) ≡ Some q
    rest true more = h
    rest false more = more

-- a look-up in a prefix of the entries is one in all entries
lookup_take : (f : Key → Bool) (i v : ℕ) (es : List (Key × ℕ)) → lookup f (take i es) ≡ Some v → lookup f es ≡ Some v
lookup_take f zero v es h = absurd (none-some v h)
lookup_take f (suc i) v [] h = absurd (none-some v h)
lookup_take f (suc i) v (e ∷ es) h = go (f e.0) (lookup_take f i v es) h
  where
    go : (b : Bool) → (lookup f (take i es) ≡ Some v → lookup f es ≡ Some v) → cond b (Some e.1) (lookup f (take i es)) ≡ Some v → cond b (Some e.1) (lookup f es) ≡ Some v
    go true more g = g
    go false more g = more g

lookup_next : (f : Key → Bool) (i : ℕ) (es : List (Key × ℕ)) (k : Key) (v : ℕ) → slice_get es i ≡ Some (k, v) →
    lookup f (take (suc i) es) ≡ option_or (lookup f (take i es)) (cond (f k) (Some v) None)
lookup_next f i [] k v h = absurd (none-some (k, v) h)
lookup_next f zero (e ∷ es) k v h = let is = same_Some e (k, v) h in ap (λ x. cond (f x.0) (Some x.1) None) is
lookup_next f (suc i) (e ∷ es) k v h = go (f e.0) (lookup_next f i es k v h)
  where
    go : (b : Bool) → lookup f (take (suc i) es) ≡ option_or (lookup f (take i es)) (cond (f k) (Some v) None) →
        cond b (Some e.1) (lookup f (take (suc i) es)) ≡ option_or (cond b (Some e.1) (lookup f (take i es))) (cond (f k) (Some v) None)
    go true more = refl
    go false more = more

-- one more of the later places replaces an older one
pub over_next : (es : List (Key × ℕ)) (i : ℕ) (k q : Key) (v : ℕ) (o : Option ℕ) → slice_get es i ≡ Some (k, v) → lookup (same_key k) es ≡ Some v →
    cond (same_key k q) (Some v) (option_or (lookup (same_key q) (take i es)) o) ≡ option_or (lookup (same_key q) (take (suc i) es)) o
over_next es i k q v o at first = go (same_key k q) refl (lookup (same_key q) (take i es)) refl ∙ ap (λ x. option_or x o) (sym (lookup_next (same_key q) i es k v at))
  where
    turned : same_key q k ≡ same_key k q
    turned = same_turned q k

    go : (b : Bool) → same_key k q ≡ b → (x : Option ℕ) → lookup (same_key q) (take i es) ≡ x →
        cond b (Some v) (option_or x o) ≡ option_or (option_or x (cond (same_key q k) (Some v) None)) o
    go true e None h = ap (λ b. option_or (option_or None (cond b (Some v) None)) o) (sym (turned ∙ e))
    go true e (Some w) h =
        let is = same_so k q e in
        sym first ∙ ap (λ x. lookup (same_key x) es) is ∙ lookup_take (same_key q) i w es h
    go false e None h = ap (λ b. option_or (option_or None (cond b (Some v) None)) o) (sym (turned ∙ e))
    go false e (Some w) h = refl
