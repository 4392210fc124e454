-- What a line of the input is answered: a form, and behind a space the bytes in hexadecimal.
use Rattle.std.specs.Prelude.{ℕ, ◌+◌, ◌==◌, List, [], ◌∷◌, length, take, drop, codes, position, bytes_eq, Option, Some, None, Result, Ok, Err, if◌then◌else◌}
use Rattle.hex.specs.Hex.{decode_of}
use Rattle.base_types.specs.Reading.{compact_at, length_at, varint_at, on_rest}
use Rattle.coins_inspect.specs.LogReports.{log_report}
use Rattle.coins_inspect.specs.Lines.{line}
use Rattle.coins_inspect.specs.Reports.{all_of, number_report, amount_report, script_report, coin_report, key_report, header_report, tx_report, block_report}
use Rattle.coins_inspect.specs.ChainReports.{headers_report}
use Rattle.coins_inspect.specs.SnapshotReports.{snapshot_report}
use Rattle.coins_inspect.specs.declared.form.Form.{Form}
use Rattle.coins_inspect.specs.declared.form.Form.TheVariants as form
use Rattle.coins_inspect.specs.declared.form.Payload.TheVariants as payload

-- what is printed of bytes in a form
unfoldable pub report_of : Form → List ℕ → List ℕ
report_of form.CompactSize bytes = number_report (length bytes) (on_rest compact_at (all_of bytes))
report_of form.Varint bytes = number_report (length bytes) (on_rest varint_at (all_of bytes))
report_of form.Length bytes = number_report (length bytes) (on_rest length_at (all_of bytes))
report_of form.Amount bytes = amount_report bytes
report_of form.Script bytes = script_report bytes
report_of form.Coin bytes = coin_report bytes
report_of form.Key bytes = key_report bytes
report_of form.Header bytes = header_report bytes
report_of form.Headers bytes = headers_report bytes
report_of form.Tx bytes = tx_report bytes
report_of form.Block bytes = block_report bytes
report_of form.Snapshot bytes = snapshot_report bytes
report_of (form.Log kind) bytes = log_report kind bytes

unfoldable pub form_named : List ℕ → Option Form
form_named name =
    if bytes_eq name (codes "compactsize") then Some form.CompactSize else
    if bytes_eq name (codes "varint") then Some form.Varint else
    if bytes_eq name (codes "length") then Some form.Length else
    if bytes_eq name (codes "amount") then Some form.Amount else
    if bytes_eq name (codes "script") then Some form.Script else
    if bytes_eq name (codes "coin") then Some form.Coin else
    if bytes_eq name (codes "key") then Some form.Key else
    if bytes_eq name (codes "header") then Some form.Header else
    if bytes_eq name (codes "headers") then Some form.Headers else
    if bytes_eq name (codes "tx") then Some form.Tx else
    if bytes_eq name (codes "block") then Some form.Block else
    if bytes_eq name (codes "snapshot") then Some form.Snapshot else
    if bytes_eq name (codes "log") then Some (form.Log payload.Bytes) else
    if bytes_eq name (codes "headers-log") then Some (form.Log payload.Headers) else
    if bytes_eq name (codes "bodies-log") then Some (form.Log payload.Body) else None

-- what is printed for a form that may not be one, and for digits that may not be bytes
abbrev pub decoded_lines : {E : Type 0} → Form → Result (List ℕ) E → List ℕ
decoded_lines form (Ok bytes) = report_of form bytes
decoded_lines form (Err error) = line (codes "refused") (codes "bad-hexadecimal" ∷ [])

unfoldable pub lines_for : Option Form → List ℕ → List ℕ
lines_for (Some form) digits = decoded_lines form (decode_of digits)
lines_for None digits = line (codes "refused") (codes "unknown-form" ∷ [])

-- the name before the first space, and the digits behind it
abbrev pub answer_at : List ℕ → Option ℕ → List ℕ
answer_at text (Some space) = lines_for (form_named (take space text)) (drop (space + 1) text)
answer_at text None = lines_for (form_named text) []

abbrev pub answer_of : List ℕ → List ℕ
answer_of text = answer_at text (position (λ byte. byte == 32) text)
