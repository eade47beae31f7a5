use Rattle.lasre_codec.proofs.TextLemmas.{text_is_read_back}
use Rattle.lasre_codec.proofs.laws.text_is_read_back.Goals as goal

pub returns : goal.returns
returns c = text_is_read_back
