use Rattle.store_state.proofs.Breaking.{breaks_are}
use Rattle.store_state.proofs.breaks.broken_places.Goals as goal

pub returns : goal.returns
returns c = λ limit given image. breaks_are limit given image
