-- `sdp_fields::Connection::parse` meets its contract: the fields of word_address from 8 on. Assumes nothing.
use Rattle.sdp_fields.specs.Records.{connection_of}
use Rattle.sdp_fields.proofs.Connection.parse.Goals as goal

pub returns : goal.returns
unfolding connection_of
returns c = c.word_address.ensures
