-- What isn't read as a number of 64 bits isn't a number within a smaller range.
use Rattle.std.proofs.Common.{◌≡◌, ℕ, ◌<◌, ◌^◌, true, List, Result, Err, arith, rules}
use Rattle.std.specs.Char.{is_ascii_digit}
use Rattle.std.specs.List.{list_all}
use Rattle.std.specs.Str.Parse.{ParsesUnsigned, digits_value}
use Rattle.std.proofs.lemmas.Bool.Decides.{nat_tests}
use Rattle.std.proofs.lemmas.Str.Parse.{IsDigitsTest, IsNumeralModel, numerals_by_value, parse_digits}
use Rattle.command_text.specs.Lines.{number_of}
use Rattle.command_text.specs.declared.field.NumberForm.{NumberForm}

digits_are_told : IsDigitsTest (λ ds. list_all is_ascii_digit ds ≡ true)
digits_are_told = search rules

numerals : IsNumeralModel (λ ds. list_all is_ascii_digit ds ≡ true) (digits_value 10)
numerals = numerals_by_value _ digits_are_told

abbrev as_result : {E : Type 0} → E → Result ℕ E
as_result e = Err e

pub not_read : {E : Type 0} (e : E) (form : NumberForm) (field : List ℕ) → ParsesUnsigned 64 10 field (as_result e) → list_all is_ascii_digit field ≡ true → form.most < 2 ^ 64 → number_of form field ≡ Err form.refusal
not_read e form field h all small =
    let none = parse_digits numerals 64 field (as_result e) h all in
    grind (arith, nat_tests)
