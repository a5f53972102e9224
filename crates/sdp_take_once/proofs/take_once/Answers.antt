-- `sdp_take_once::take_once` meets its contract. Assumes nothing.
use Rattle.sdp_take_once.proofs.take_once.Goals as goal

pub returns-in-Origin : goal.returns-in-Origin
returns-in-Origin c ρ t h = rw c.in-Origin.is (c.take_origin.ensures ρ t h)

pub returns-in-Name : goal.returns-in-Name
returns-in-Name c ρ t h = rw c.in-Name.is (c.take_name.ensures ρ t h)

pub returns-in-Text : goal.returns-in-Text
returns-in-Text c ρ t h = rw c.in-Text.is (c.take_text.ensures ρ t h)

pub returns-in-Connection : goal.returns-in-Connection
returns-in-Connection c ρ t h = rw c.in-Connection.is (c.take_connection.ensures ρ t h)
