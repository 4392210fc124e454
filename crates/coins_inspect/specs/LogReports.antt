-- What is printed of a log: the records, where each begins and how long its payload is, what the payload means, and where
-- the log ends; or the gate that is damaged.
use Rattle.std.specs.Prelude.{ℕ, List, [], ◌∷◌, ◌++◌, length, drop, codes, decimal, Option, Some, None, Result, Ok, Err}
use Rattle.std.specs.List.{flat_map}
use Rattle.base_types.specs.Printed.{printed}
use Rattle.base_types.specs.declared.hash.Hash32.{Hash32}
use Rattle.base_types.specs.declared.fault.StoreFault.{StoreFault}
use Rattle.base_types.specs.declared.fault.StoreFault.TheVariants.{NoMemory, DiskFailed, Damaged, Full, CacheFull}
use Rattle.batch_log.specs.Records.{log, records}
use Rattle.batch_log.specs.OpenLog.{places_of}
use Rattle.batch_log.specs.declared.places.Place.{Place}
use Rattle.block_codec.specs.Text.{hash_of_header}
use Rattle.block_codec.specs.declared.block.Header.{Header}
use Rattle.block_store.specs.Headers.{headers_of}
use Rattle.block_store.specs.Bodies.{body_hash}
use Rattle.coins_inspect.specs.Lines.{line}
use Rattle.coins_inspect.specs.Reports.{end_line, block_report}
use Rattle.coins_inspect.specs.declared.form.Payload.{Payload}
use Rattle.coins_inspect.specs.declared.form.Payload.TheVariants.{Bytes, Headers, Body}

unfoldable pub record_line : Place → List ℕ
record_line place = line (codes "record") (decimal place.at ∷ codes "length" ∷ decimal place.len ∷ [])

unfoldable pub stored_header_line : Header → List ℕ
stored_header_line header = line (codes "header") (printed (hash_of_header header) ∷ [])

abbrev pub headers_lines : Option (List Header) → List ℕ
headers_lines (Some headers) = flat_map stored_header_line headers
headers_lines None = line (codes "fault") (codes "NoHeaders" ∷ [])

abbrev pub body_lines : Option Hash32 → List ℕ → List ℕ
body_lines (Some hash) payload = line (codes "body") (printed hash ∷ []) ++ block_report (drop 32 payload)
body_lines None payload = line (codes "fault") (codes "NoBody" ∷ [])

unfoldable pub body_report : List ℕ → List ℕ
body_report payload = body_lines (body_hash payload) payload

-- what a payload means
unfoldable pub payload_lines : Payload → List ℕ → List ℕ
payload_lines Bytes payload = []
payload_lines Headers payload = headers_lines (headers_of payload)
payload_lines Body payload = body_report payload

unfoldable pub records_lines : Payload → List Place → List (List ℕ) → List ℕ
records_lines kind [] payloads = []
records_lines kind (place ∷ places) [] = []
records_lines kind (place ∷ places) (payload ∷ payloads) = record_line place ++ payload_lines kind payload ++ records_lines kind places payloads

unfoldable pub damaged_line : ℕ → List ℕ
damaged_line gate = line (codes "damaged") (decimal gate ∷ [])

-- a fact of the gate where damage is answered, and no other fault is
abbrev pub IsDamage : StoreFault → (ℕ → Type 0) → Type 0
IsDamage (Damaged file gate) P = P gate
IsDamage NoMemory P = ⊥
IsDamage DiskFailed P = ⊥
IsDamage (Full file) P = ⊥
IsDamage CacheFull P = ⊥

abbrev pub log_lines : Payload → Result (List (List ℕ)) ℕ → List ℕ
log_lines kind (Ok payloads) = records_lines kind (places_of 0 payloads) payloads ++ end_line (length (records payloads))
log_lines kind (Err gate) = damaged_line gate

unfoldable pub log_report : Payload → List ℕ → List ℕ
log_report kind bytes = log_lines kind (log bytes)
