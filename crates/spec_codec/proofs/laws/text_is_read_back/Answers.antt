use Rattle.spec_codec.proofs.ReadBackLemmas.{text_is_read_back}
use Rattle.spec_codec.proofs.laws.text_is_read_back.Goals as goal

pub returns : goal.returns
returns c = text_is_read_back
