-- `sdp_take_row::take_row` meets its contract. Assumes nothing.
use Rattle.sdp_take_row.proofs.take_row.Goals as goal

pub returns-in-Contact : goal.returns-in-Contact
returns-in-Contact c ρ t h = rw c.in-Contact.is (c.take_contact.ensures ρ t h)

pub returns-in-MediaConnection : goal.returns-in-MediaConnection
returns-in-MediaConnection c ρ t h = rw c.in-MediaConnection.is (c.take_media_connection.ensures ρ t h)

pub returns-in-Bandwidth : goal.returns-in-Bandwidth
returns-in-Bandwidth c ρ t h = rw c.in-Bandwidth.is (c.take_bandwidth.ensures ρ t h)

pub returns-in-Time : goal.returns-in-Time
returns-in-Time c ρ t h = rw c.in-Time.is (c.take_time.ensures ρ t h)

pub returns-in-Attribute : goal.returns-in-Attribute
returns-in-Attribute c ρ t h = rw c.in-Attribute.is (c.take_attribute.ensures ρ t h)

pub returns-in-Media : goal.returns-in-Media
returns-in-Media c ρ t h = rw c.in-Media.is (c.take_media.ensures ρ t h)
