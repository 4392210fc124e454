-- The JSON values that replies show.
use Rattle.std.specs.Prelude.{◌≡◌, codes, Option, Some, None, ℕ, List}
use Rattle.json.specs.Print.{escape}
use Rattle.serde_json.specs.Data.{Data, null, boolean, number, unsigned, string, object, member, no_members}
use Rattle.base_types.specs.Printed.{printed}
use Rattle.command_text.specs.Replies.{role_name}
use Rattle.command_text.specs.declared.json_text.StoreInfo.{StoreInfo}
use Rattle.command_text.specs.declared.reply.Background.{Background}
use Rattle.command_text.specs.declared.reply.TxOutFound.{TxOutFound}

-- nothing in the text is escaped in JSON
abbrev pub IsPlain : List ℕ → Type 0
IsPlain text = escape text ≡ text

-- a coin, with the texts of the tip and of its script
abbrev pub coin_data : TxOutFound → List ℕ → List ℕ → Data
coin_data found bestblock script = object (
    member (codes "bestblock") (string bestblock) (
    member (codes "coinbase") (boolean found.coinbase) (
    member (codes "confirmations") (number (unsigned found.confirmations)) (
    member (codes "height") (number (unsigned found.height)) (
    member (codes "script") (string script) (
    member (codes "value") (number (unsigned found.value)) no_members))))))

abbrev pub background_data : Option Background → Data
background_data None = null
background_data (Some background) = object (
    member (codes "height") (number (unsigned background.height)) (
    member (codes "tip") (string (printed background.tip)) no_members))

-- the state of a store, with the value that shows its background and the text of its tip
abbrev pub info_data : StoreInfo → Data → List ℕ → Data
info_data info background tip = object (
    member (codes "background") background (
    member (codes "chain") (string (codes "regtest")) (
    member (codes "headers") (number (unsigned info.headers)) (
    member (codes "height") (number (unsigned info.height)) (
    member (codes "role") (string (role_name info.role)) (
    member (codes "tip") (string tip) no_members))))))
