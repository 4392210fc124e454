-- What the writes of an append do to the bytes of a log.
use Rattle.std.proofs.Common.{◌≡◌, ◌≢◌, inl, inr, ℕ, ◌+◌, ◌-◌, ◌<◌, ◌^◌, List, [], ◌∷◌, ◌++◌, length, get_or, take, drop, sym, ◌∙◌, ap, arith, append_assoc, length-append, take-append-drop}
use Rattle.std.proofs.lemmas.List.{take_at, drop_at, drop_more, take_all, drop-drop, append-nil}
use Rattle.std.proofs.lemmas.Bool.{cases_eq}
use Rattle.std.specs.Prelude.{min, replicate}
use Rattle.disk_model.specs.Disk.{written, Torn}
use Rattle.batch_log.specs.Records.{body, records, AllFit, EndsClosed, WithOrWithout}

pub records-push : (payloads : List (List ℕ)) (payload rest : List ℕ) → records (payloads ++ payload ∷ []) ++ rest ≡ records payloads ++ ((1 ∷ body payload) ++ rest)
records-push [] payload rest = ap (λ (l : List ℕ). l ++ rest) (append-nil (1 ∷ body payload))
records-push (p ∷ payloads) payload rest =
    append_assoc (1 ∷ body p) (records (payloads ++ payload ∷ [])) rest
    ∙ ap (λ (l : List ℕ). (1 ∷ body p) ++ l) (records-push payloads payload rest)
    ∙ sym (append_assoc (1 ∷ body p) (records payloads) ((1 ∷ body payload) ++ rest))

pub AllFit-push : (payloads : List (List ℕ)) (payload : List ℕ) → AllFit payloads → length payload < 2 ^ 32 → AllFit (payloads ++ payload ∷ [])
AllFit-push [] payload fit h = (h, tt)
AllFit-push (p ∷ payloads) payload fit h = (fit.0, AllFit-push payloads payload fit.1 h)

-- a record behind a closed gate, and the next gate closed
pub record Staged (payloads : List (List ℕ)) (payload bytes : List ℕ) : Type 0 where
  pub fit : AllFit payloads
  pub gate : ℕ
  pub rest : List ℕ
  pub closed : gate ≢ 1
  pub is : bytes ≡ records payloads ++ gate ∷ (body payload ++ 0 ∷ rest)

module _ (payloads : List (List ℕ)) (end : ℕ) (ends : end ≡ length (records payloads)) where
  -- the bytes up to a gate and from it on
  size : (gate : ℕ) (rest : List ℕ) → length (records payloads ++ gate ∷ rest) ≡ end + 1 + length rest
  size gate rest = omega (arith, length-append (records payloads) (gate ∷ rest))

  to_gate : (gate : ℕ) → length (records payloads ++ gate ∷ []) ≡ end + 1
  to_gate gate = omega (arith, length-append (records payloads) (gate ∷ []))

  split : (gate : ℕ) (rest : List ℕ) → records payloads ++ gate ∷ rest ≡ (records payloads ++ gate ∷ []) ++ rest
  split gate rest = sym (append_assoc (records payloads) (gate ∷ []) rest)

  front : (gate : ℕ) (rest : List ℕ) → take (end + 1) (records payloads ++ gate ∷ rest) ≡ records payloads ++ gate ∷ []
  front gate rest = ap (take (end + 1)) (split gate rest) ∙ take_at (records payloads ++ gate ∷ []) rest (end + 1) (to_gate gate)

  back : (gate : ℕ) (rest : List ℕ) → drop (end + 1) (records payloads ++ gate ∷ rest) ≡ rest
  back gate rest = ap (drop (end + 1)) (split gate rest) ∙ drop_at (records payloads ++ gate ∷ []) rest (end + 1) (to_gate gate)

  -- the closed gate stands in each outcome of the first write
  pub torn_behind : (n : ℕ) (a b : List ℕ) → EndsClosed payloads a → Torn (end + 1) n a b → EndsClosed payloads b
  torn_behind n a b e torn =
      let long : length a ≡ end + 1 + length e.rest = ap length e.is ∙ size e.gate e.rest in
      let within : min (end + 1) (length a) ≡ end + 1 = omega arith in
      let same : take (end + 1) b ≡ records payloads ++ e.gate ∷ [] =
      ap (λ k. take k b) (sym within) ∙ torn.before ∙ ap (take (end + 1)) e.is ∙ front e.gate e.rest in
      let whole : b ≡ records payloads ++ e.gate ∷ drop (end + 1) b =
      sym (take-append-drop (end + 1) b) ∙ ap (λ (l : List ℕ). l ++ drop (end + 1) b) same ∙ append_assoc (records payloads) (e.gate ∷ []) (drop (end + 1) b) in
      record { fit = e.fit; gate = e.gate; rest = drop (end + 1) b; closed = e.closed; is = whole }

  pub written_behind : (payload xs a : List ℕ) → xs ≡ body payload ++ 0 ∷ [] → EndsClosed payloads a → Staged payloads payload (written (end + 1) xs a)
  written_behind payload xs a spelled e =
      let long : length a ≡ end + 1 + length e.rest = ap length e.is ∙ size e.gate e.rest in
      let no_gap : end + 1 - length a ≡ 0 = omega arith in
      let start : take (end + 1) a ≡ records payloads ++ e.gate ∷ [] = ap (take (end + 1)) e.is ∙ front e.gate e.rest in
      let tail : drop (end + 1 + length xs) a ≡ drop (length xs) e.rest =
      sym (drop-drop (length xs) (end + 1) a) ∙ ap (λ (l : List ℕ). drop (length xs) (drop (end + 1) l)) e.is ∙ ap (drop (length xs)) (back e.gate e.rest) in
      let whole : written (end + 1) xs a ≡ records payloads ++ e.gate ∷ (body payload ++ 0 ∷ drop (length xs) e.rest) =
      ap (λ (l : List ℕ). l ++ replicate (end + 1 - length a) 0 ++ xs ++ drop (end + 1 + length xs) a) start
      ∙ ap (λ (l : List ℕ). records payloads ++ e.gate ∷ [] ++ replicate (end + 1 - length a) 0 ++ xs ++ l) tail
      ∙ ap (λ (k : ℕ). records payloads ++ e.gate ∷ [] ++ replicate k 0 ++ xs ++ drop (length xs) e.rest) no_gap
      ∙ ap (λ (l : List ℕ). l ++ xs ++ drop (length xs) e.rest) (append-nil (records payloads ++ e.gate ∷ []))
      ∙ append_assoc (records payloads ++ e.gate ∷ []) xs (drop (length xs) e.rest)
      ∙ append_assoc (records payloads) (e.gate ∷ []) (xs ++ drop (length xs) e.rest)
      ∙ ap (λ (l : List ℕ). records payloads ++ e.gate ∷ (l ++ drop (length xs) e.rest)) spelled
      ∙ ap (λ (l : List ℕ). records payloads ++ e.gate ∷ l) (append_assoc (body payload) (0 ∷ []) (drop (length xs) e.rest)) in
      record { fit = e.fit; gate = e.gate; rest = drop (length xs) e.rest; closed = e.closed; is = whole }

  opened : (payload rest : List ℕ) → records payloads ++ 1 ∷ (body payload ++ 0 ∷ rest) ≡ records (payloads ++ payload ∷ []) ++ 0 ∷ rest
  opened payload rest = sym (records-push payloads payload (0 ∷ rest))

  -- the record stands whole in each outcome of the second write
  pub torn_gate : (payload a b : List ℕ) → length payload < 2 ^ 32 → Staged payloads payload a → Torn end 1 a b → WithOrWithout payloads payload a b
  torn_gate payload a b fits s torn =
      let behind = body payload ++ 0 ∷ s.rest in
      let long : length a ≡ end + 1 + length behind = ap length s.is ∙ size s.gate behind in
      let no_shorter = torn.no_shorter in
      let no_longer = torn.no_longer in
      let within : min end (length a) ≡ end = omega arith in
      let start : take end b ≡ records payloads = ap (λ k. take k b) (sym within) ∙ torn.before ∙ ap (take end) s.is ∙ take_at (records payloads) (s.gate ∷ behind) end (sym ends) in
      let tail : drop (end + 1) b ≡ behind = ap (drop (end + 1)) (sym (take_all (length a) b (omega arith))) ∙ torn.after ∙ ap (drop (end + 1)) s.is ∙ back s.gate behind in
      let gate = get_or b end 0 in
      let rest : drop end b ≡ gate ∷ behind = drop_more b end 0 (omega arith) ∙ ap (λ (l : List ℕ). gate ∷ l) tail in
      let whole : b ≡ records payloads ++ gate ∷ behind =
      sym (take-append-drop end b) ∙ ap (λ (l : List ℕ). l ++ drop end b) start ∙ ap (λ (l : List ℕ). records payloads ++ l) rest in
      elim (cases_eq gate 1) [
        | inl is_open ↦ inr record {
          fit = AllFit-push payloads payload s.fit fits;
          gate = 0;
          rest = s.rest;
          closed = omega arith;
          is = whole ∙ ap (λ (k : ℕ). records payloads ++ k ∷ behind) is_open ∙ opened payload s.rest;
        }
        | inr shut ↦ inl record { fit = s.fit; gate = gate; rest = behind; closed = shut; is = whole }
      ]

  pub written_gate : (payload a : List ℕ) → length payload < 2 ^ 32 → Staged payloads payload a → EndsClosed (payloads ++ payload ∷ []) (written end (1 ∷ []) a)
  written_gate payload a fits s =
      let behind = body payload ++ 0 ∷ s.rest in
      let long : length a ≡ end + 1 + length behind = ap length s.is ∙ size s.gate behind in
      let no_gap : end - length a ≡ 0 = omega arith in
      let start : take end a ≡ records payloads = ap (take end) s.is ∙ take_at (records payloads) (s.gate ∷ behind) end (sym ends) in
      let tail : drop (end + 1) a ≡ behind = ap (drop (end + 1)) s.is ∙ back s.gate behind in
      let whole : written end (1 ∷ []) a ≡ records payloads ++ 1 ∷ behind =
      ap (λ (l : List ℕ). l ++ replicate (end - length a) 0 ++ 1 ∷ [] ++ drop (end + 1) a) start
      ∙ ap (λ (l : List ℕ). records payloads ++ replicate (end - length a) 0 ++ 1 ∷ [] ++ l) tail
      ∙ ap (λ (k : ℕ). records payloads ++ replicate k 0 ++ 1 ∷ [] ++ behind) no_gap
      ∙ ap (λ (l : List ℕ). l ++ 1 ∷ [] ++ behind) (append-nil (records payloads))
      ∙ append_assoc (records payloads) (1 ∷ []) behind in
      record { fit = AllFit-push payloads payload s.fit fits; gate = 0; rest = s.rest; closed = omega arith; is = whole ∙ opened payload s.rest }
