-- The lines of replies.
use Rattle.std.specs.Prelude.{ℕ, Bool, true, false, List, [], ◌∷◌, ◌++◌, codes, decimal, Option, Some, None}
use Rattle.hex.specs.Hex.{encode_lower}
use Rattle.base_types.specs.Printed.{printed}
use Rattle.base_types.specs.Refusals.{header_rule, body_rule, coin_rule}
use Rattle.base_types.specs.declared.hash.Hash32.{Hash32}
use Rattle.base_types.specs.declared.flushes.Chain.{Chain}
use Rattle.base_types.specs.declared.flushes.Chain.TheVariants as chain
use Rattle.command_text.specs.declared.json_text.StoreInfo.{StoreInfo}
use Rattle.command_text.specs.declared.line.LineRefused.{LineRefused}
use Rattle.command_text.specs.declared.line.LineRefused.TheVariants.{LineTooLong, UnknownCommand, BadName, BadKey, BadTxid, BadIndex, BadNumber, BadCount}
use Rattle.command_text.specs.declared.reply.Background.{Background}
use Rattle.command_text.specs.declared.reply.Reply.{Reply}
use Rattle.command_text.specs.declared.reply.Reply.TheVariants.{Refused, HostFault, FileTooLong, TreeFull, NoNonce, NotNext, Block, Body, BlockOf, Folded, Headers, Import, Generated, Flushed, TxOut, Info}
use Rattle.command_text.specs.declared.reply.Role.{Role}
use Rattle.command_text.specs.declared.reply.Role.TheVariants as role
use Rattle.command_text.specs.declared.reply.Rule.{Rule}
use Rattle.command_text.specs.declared.reply.Rule.TheVariants as rule
use Rattle.command_text.specs.declared.reply.TxOutFound.{TxOutFound}

abbrev pub refusal : LineRefused → List ℕ
refusal LineTooLong = codes "line-too-long"
refusal UnknownCommand = codes "unknown-command"
refusal BadName = codes "bad-name"
refusal BadKey = codes "bad-key"
refusal BadTxid = codes "bad-txid"
refusal BadIndex = codes "bad-index"
refusal BadNumber = codes "bad-number"
refusal BadCount = codes "bad-count"

abbrev pub rule_name : Rule → List ℕ
rule_name (rule.Header why) = header_rule why
rule_name (rule.Body why) = body_rule why
rule_name (rule.Coin why) = coin_rule why

abbrev pub chain_name : Chain → List ℕ
chain_name chain.Full = codes "full"
chain_name chain.Snapshot = codes "snapshot"

abbrev pub role_name : Role → List ℕ
role_name role.Full = codes "full"
role_name role.Unvalidated = codes "unvalidated"
role_name role.Validated = codes "validated"

-- ---- words of a line, each behind a space

abbrev pub and_number : ℕ → List ℕ
and_number n = codes " " ++ decimal n

abbrev pub and_hash : Hash32 → List ℕ
and_hash hash = codes " " ++ printed hash

abbrev pub and_word : List ℕ → List ℕ
and_word word = codes " " ++ word

-- ---- compact JSON

abbrev pub truth : Bool → List ℕ
truth true = codes "true"
truth false = codes "false"

abbrev pub quoted : List ℕ → List ℕ
quoted text = codes "\"" ++ text ++ codes "\""

abbrev pub coin_json : TxOutFound → List ℕ
coin_json found =
    codes "{\"bestblock\":" ++ quoted (printed found.bestblock) ++
    codes ",\"coinbase\":" ++ truth found.coinbase ++
    codes ",\"confirmations\":" ++ decimal found.confirmations ++
    codes ",\"height\":" ++ decimal found.height ++
    codes ",\"script\":" ++ quoted (encode_lower found.script) ++
    codes ",\"value\":" ++ decimal found.value ++ codes "}"

abbrev pub background_json : Option Background → List ℕ
background_json None = codes "null"
background_json (Some background) = codes "{\"height\":" ++ decimal background.height ++ codes ",\"tip\":" ++ quoted (printed background.tip) ++ codes "}"

abbrev pub info_json : StoreInfo → List ℕ
info_json info =
    codes "{\"background\":" ++ background_json info.background ++
    codes ",\"chain\":" ++ quoted (codes "regtest") ++
    codes ",\"headers\":" ++ decimal info.headers ++
    codes ",\"height\":" ++ decimal info.height ++
    codes ",\"role\":" ++ quoted (role_name info.role) ++
    codes ",\"tip\":" ++ quoted (printed info.tip) ++ codes "}"

-- ---- replies

-- a reply without the line feed that ends it
abbrev pub words_of : Reply → List ℕ
words_of (Refused why) = codes "refused" ++ and_word (refusal why)
words_of HostFault = codes "refused host-fault"
words_of FileTooLong = codes "refused file-too-long"
words_of TreeFull = codes "refused tree-full"
words_of NoNonce = codes "refused no-nonce"
words_of (NotNext hash) = codes "refused not-next" ++ and_hash hash
words_of (Block hash rule) = codes "refused block" ++ and_hash hash ++ and_word (rule_name rule)
words_of (Body hash why) = codes "body" ++ and_hash hash ++ and_word (body_rule why)
words_of (BlockOf chain hash why) = codes "block" ++ and_word (chain_name chain) ++ and_hash hash ++ and_word (coin_rule why)
words_of (Folded frames height tip coins) = codes "folded" ++ and_number frames ++ and_number height ++ and_hash tip ++ and_number coins
words_of (Headers frames added tree) = codes "headers" ++ and_number frames ++ and_number added ++ and_number tree
words_of (Import frames headers bodies height tip) = codes "import" ++ and_number frames ++ and_number headers ++ and_number bodies ++ and_number height ++ and_hash tip
words_of (Generated count tip) = codes "generated" ++ and_number count ++ and_hash tip
words_of (Flushed chain height tip) = codes "flushed" ++ and_word (chain_name chain) ++ and_number height ++ and_hash tip
words_of (TxOut None) = codes "null"
words_of (TxOut (Some found)) = coin_json found
words_of (Info background headers height role tip) = info_json (record { background = background; headers = headers; height = height; role = role; tip = tip })

-- the line of a reply
abbrev pub reply_text : Reply → List ℕ
reply_text reply = words_of reply ++ 10 ∷ []
