-- What is asked of a block that a tree hasn't.
use Rattle.std.proofs.Common.{◌≡◌, ℕ, zero, suc, ◌⊎◌, inl, inr, List, [], ◌∷◌, length, ◌-◌, map, take, Bool, true, false, cond, Option, Some, None, refl, sym, ap, ◌∙◌}
use Rattle.std.specs.Prelude.{unwrap_or, is_some}
use Rattle.std.specs.Option.{option_map_or}
use Rattle.std.specs.FinMap.{get, len, contains_key}
use Rattle.base_types.specs.declared.hash.Hash32.{Hash32}
use Rattle.block_codec.specs.declared.block.Header.{Header}
use Rattle.block_codec.specs.Text.{same_hash}
use Rattle.chain_model.specs.Tree.{Headers, and_below, chain_within, height, among, rising, median, time, median_time, of_member}
use Rattle.block_codec.specs.Genesis.{genesis_hash}

none : {A : Type 0} (o : Option A) → is_some o ≡ false → o ≡ None
none None e = refl
none (Some a) e = cc

module _ (headers : Headers) (hash : Hash32) (missing : contains_key headers hash ≡ false) where
  no_header : get headers hash ≡ None
  no_header = none (get headers hash) missing

  short : (n : ℕ) → (chain_within n headers hash ≡ []) ⊎ (chain_within n headers hash ≡ hash ∷ [])
  unfolding chain_within
  short zero = inl refl
  short (suc n) = elim (same_hash hash genesis_hash) as (λ b. (cond b (hash ∷ []) (and_below hash (get headers hash) (λ parent. chain_within n headers parent)) ≡ []) ⊎ (cond b (hash ∷ []) (and_below hash (get headers hash) (λ parent. chain_within n headers parent)) ≡ hash ∷ [])) [
    | true ↦ inr refl
    | false ↦ inl (ap (λ (o : Option Header). and_below hash o (λ parent. chain_within n headers parent)) no_header)
  ]

  height_missing : height headers hash ≡ 0
  height_missing = elim (short (len headers)) [
    | inl e ↦ ap (λ (hashes : List Hash32). length hashes - 1) e
    | inr e ↦ ap (λ (hashes : List Hash32). length hashes - 1) e
  ]

  no_time : median (0 ∷ []) ≡ 0
  unfolding among rising
  no_time = refl

  no_times : median [] ≡ 0
  unfolding among rising
  no_times = refl

  median_missing : median_time headers hash ≡ 0
  median_missing = elim (short (len headers)) [
    | inl e ↦ ap (λ (hashes : List Hash32). median (map (time headers) (take 11 hashes))) e ∙ no_times
    | inr e ↦ ap (λ (hashes : List Hash32). median (map (time headers) (take 11 hashes))) e
        ∙ ap (λ (o : Option Header). median (option_map_or (λ (header : Header). header.time) o 0 ∷ [])) no_header
        ∙ no_time
  ]

or_zero : (b : Bool) (n : ℕ) → (b ≡ false → n ≡ 0) → unwrap_or (cond b (Some n) None) 0 ≡ n
or_zero true n at_none = refl
or_zero false n at_none = sym (at_none refl)

-- the height of a block, with 0 in place of none
pub height_or_zero : (headers : Headers) (hash : Hash32) → unwrap_or (of_member headers hash (height headers hash)) 0 ≡ height headers hash
height_or_zero headers hash = or_zero (contains_key headers hash) (height headers hash) (height_missing headers hash)

-- the median time of a block, with 0 in place of none
pub median_or_zero : (headers : Headers) (hash : Hash32) → unwrap_or (of_member headers hash (median_time headers hash)) 0 ≡ median_time headers hash
median_or_zero headers hash = or_zero (contains_key headers hash) (median_time headers hash) (median_missing headers hash)
