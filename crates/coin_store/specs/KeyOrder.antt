-- The order of outpoints by their key texts.
use Rattle.std.specs.Prelude.{◌≡◌}
use Rattle.std.specs.Cmp.Lexicographic.{slice_cmp}
use Rattle.std.specs.Ordering.{on, nat_cmp}
use Rattle.std.specs.declared.cmp.Ordering.{Ordering}
use Rattle.base_types.specs.declared.hash.OutPoint.{OutPoint}
use Rattle.coin_codec.specs.KeyText.{key_text}
use Rattle.coin_store.specs.declared.key_order.Named.{Named}

-- by the bytes of their texts
abbrev pub key_order : OutPoint → OutPoint → Ordering
key_order = on key_text (slice_cmp nat_cmp)

abbrev pub IsNamed : Named → Type 0
IsNamed named = named.text.items ≡ key_text named.key

abbrev pub key_of : Named → OutPoint
key_of named = named.key
