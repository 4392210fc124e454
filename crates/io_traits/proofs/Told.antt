-- What an object tells, through calls one after another.
use Rattle.std.specs.Prelude.{Option, Some, None}
use Rattle.io_traits.specs.Told.{OnTold}

pub OnTold-same : {S : Type 0} (P : S → S → Type 0) (a : Option S) → ((s : S) → P s s) → OnTold a a P
OnTold-same P None same = tt
OnTold-same P (Some s) same = same s

pub OnTold-weaker : {S : Type 0} (P Q : S → S → Type 0) (a b : Option S) → ((s t : S) → P s t → Q s t) → OnTold a b P → OnTold a b Q
OnTold-weaker P Q None None weaker told = tt
OnTold-weaker P Q None (Some t) weaker told = absurd told
OnTold-weaker P Q (Some s) None weaker told = absurd told
OnTold-weaker P Q (Some s) (Some t) weaker told = weaker s t told

-- two calls, one after the other
pub OnTold-then : {S : Type 0} (P Q R : S → S → Type 0) (a b c : Option S) → ((s t u : S) → P s t → Q t u → R s u) → OnTold a b P → OnTold b c Q → OnTold a c R
OnTold-then P Q R None None None join first second = tt
OnTold-then P Q R None None (Some u) join first second = absurd second
OnTold-then P Q R None (Some t) c join first second = absurd first
OnTold-then P Q R (Some s) None c join first second = absurd first
OnTold-then P Q R (Some s) (Some t) None join first second = absurd second
OnTold-then P Q R (Some s) (Some t) (Some u) join first second = join s t u first second
