-- Trying nonces in their order.
use Rattle.std.proofs.Common.{◌≡◌, ◌<◌, ◌≤◌, ◌+◌, ◌-◌, ℕ, suc, Bool, true, false, refl, sym, ap, ◌∙◌, arith}
use Rattle.std.specs.Prelude.{Some, None, if◌then◌else◌}
use Rattle.block_codec.specs.declared.block.Header.{Header}
use Rattle.block_codec.specs.Text.{hash_of_header}
use Rattle.base_types.specs.declared.hash.Hash32.{Hash32}
use Rattle.chain_model.specs.Generated.{least_nonce, with_nonce}
use Rattle.chain_model.specs.HeaderRules.{meets_target}

step : (more nonce : ℕ) (header : Header) → least_nonce (suc more) nonce header ≡ (if meets_target (hash_of_header (with_nonce header nonce)) then Some nonce else least_nonce more (suc nonce) header)
unfolding least_nonce
step more nonce header = refl

-- of so many nonces, the next one meets the target
pub nonce_found : (n nonce : ℕ) (header : Header) → nonce < n → meets_target (hash_of_header (with_nonce header nonce)) ≡ true → least_nonce (n - nonce) nonce header ≡ Some nonce
nonce_found n nonce header within meets =
    let count : n - nonce ≡ suc (n - (nonce + 1)) = omega arith in
    ap (λ k. least_nonce k nonce header) count
    ∙ step (n - (nonce + 1)) nonce header
    ∙ ap (λ (b : Bool). if b then Some nonce else least_nonce (n - (nonce + 1)) (suc nonce) header) meets

-- or it doesn't
pub nonce_passed : (n nonce : ℕ) (header : Header) → nonce < n → meets_target (hash_of_header (with_nonce header nonce)) ≡ false → least_nonce (n - nonce) nonce header ≡ least_nonce (n - (nonce + 1)) (nonce + 1) header
nonce_passed n nonce header within fails =
    let count : n - nonce ≡ suc (n - (nonce + 1)) = omega arith in
    let next : suc nonce ≡ nonce + 1 = omega arith in
    ap (λ k. least_nonce k nonce header) count
    ∙ step (n - (nonce + 1)) nonce header
    ∙ ap (λ (b : Bool). if b then Some nonce else least_nonce (n - (nonce + 1)) (suc nonce) header) fails
    ∙ ap (λ k. least_nonce (n - (nonce + 1)) k header) next

-- none is left
pub no_nonce : (n nonce : ℕ) (header : Header) → n ≤ nonce → least_nonce (n - nonce) nonce header ≡ None
unfolding least_nonce
no_nonce n nonce header past = let count : n - nonce ≡ 0 = omega arith in ap (λ k. least_nonce k nonce header) count

-- a header of which only the nonce has changed
pub same_but_nonce : (header first : Header) (nonce : ℕ) → with_nonce header 0 ≡ with_nonce first 0 → with_nonce header nonce ≡ with_nonce first nonce
same_but_nonce header first nonce same = ap (λ (h : Header). with_nonce h nonce) same

pub tested : (header first : Header) (nonce : ℕ) (hash : Hash32) (test : Bool) → with_nonce header 0 ≡ with_nonce first 0 → hash ≡ hash_of_header (with_nonce header nonce) → test ≡ meets_target hash → meets_target (hash_of_header (with_nonce first nonce)) ≡ test
tested header first nonce hash test same is answer =
    ap (λ (h : Header). meets_target (hash_of_header h)) (sym (same_but_nonce header first nonce same)) ∙ ap meets_target (sym is) ∙ sym answer
