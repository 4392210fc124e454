use Rattle.std.proofs.Common.{◌≡◌, sym, ap, ◌∙◌}
use Rattle.std.specs.Prelude.{List, ℕ, ◌++◌, Ok}
use Rattle.base_types.specs.Codec.{at}
use Rattle.base_types.specs.Reading.{Input}
use Rattle.base_types.specs.declared.hash.OutPoint.{OutPoint}
use Rattle.coin_codec.specs.KeyText.{key_text, KeyFits}
use Rattle.coin_codec.proofs.KeyLaws.{key_codec}
use Rattle.coin_codec.specs.Reading.{key_at}
use Rattle.coin_codec.proofs.key.read_key.Goals as goal

spelled_there : (old ahead : Input) (key : OutPoint) (rest : List ℕ) → ahead ≡ old → KeyFits key → old.rest ≡ key_text key ++ rest → key_at ahead ≡ Ok (key, at old.end rest)
spelled_there old ahead key rest same fits is = ap key_at same ∙ ap (λ (bytes : List ℕ). key_at (at old.end bytes)) is ∙ key_codec.again key old.end rest fits

pub returns-clause-only : goal.returns-clause-only
returns-clause-only c = λ key rest fits is. sym (spelled_there c.args.cursor.now c.copy-ahead.result key rest c.copy-ahead.ensures fits is) ∙ c.in_ok-key.ensures.value

pub returns-in_err-key-clause-only : goal.returns-in_err-key-clause-only
returns-in_err-key-clause-only c = λ key rest fits is.
    let other = sym (spelled_there c.args.cursor.now c.copy-ahead.result key rest c.copy-ahead.ensures fits is) ∙ c.in_err-key.ensures.value in
    absurd cc
