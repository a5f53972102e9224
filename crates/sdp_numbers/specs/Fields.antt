-- Document 01, "Fields:" of "Refusal numbers", in the paper's order. 0 where a refusal names no field. A later request adds its numbers at
-- the end.
use Rattle.std.specs.Prelude.{ℕ}

-- "1-6 o in order, 7 o trailing"; "o: username, sess-id, version number, nettype, addrtype, address"
abbrev pub username : ℕ
username = 1

abbrev pub sess_id : ℕ
sess_id = 2

abbrev pub sess_version : ℕ
sess_version = 3

abbrev pub origin_nettype : ℕ
origin_nettype = 4

abbrev pub origin_addrtype : ℕ
origin_addrtype = 5

abbrev pub origin_address : ℕ
origin_address = 6

abbrev pub origin_trailing : ℕ
origin_trailing = 7

-- "8-10 c, 11 trailing"
abbrev pub connection_nettype : ℕ
connection_nettype = 8

abbrev pub connection_addrtype : ℕ
connection_addrtype = 9

abbrev pub connection_address : ℕ
connection_address = 10

abbrev pub connection_trailing : ℕ
connection_trailing = 11

-- "12-13 b, 14 trailing"
abbrev pub bwtype : ℕ
bwtype = 12

abbrev pub bandwidth : ℕ
bandwidth = 13

abbrev pub bandwidth_trailing : ℕ
bandwidth_trailing = 14

-- "15-16 t, 17 trailing"
abbrev pub start_time : ℕ
start_time = 15

abbrev pub stop_time : ℕ
stop_time = 16

abbrev pub time_trailing : ℕ
time_trailing = 17

-- "18 interval, 19 duration, 20 offset"
abbrev pub interval : ℕ
interval = 18

abbrev pub duration : ℕ
duration = 19

abbrev pub offset : ℕ
offset = 20

-- "21 adjustment, 22 zone offset"
abbrev pub adjustment : ℕ
adjustment = 21

abbrev pub zone_offset : ℕ
zone_offset = 22

-- "23-24 a"
abbrev pub attribute : ℕ
attribute = 23

abbrev pub attribute_value : ℕ
attribute_value = 24

-- "25-26 k"; document 02, P4: "fields 25 and 26 stay reserved"
abbrev pub key_method : ℕ
key_method = 25

abbrev pub key_text : ℕ
key_text = 26

-- "27 media name, 28 port, 29 port encoding, 30 num-ports, 31 proto, 32 fmt, 33 media title"
abbrev pub media_name : ℕ
media_name = 27

abbrev pub port : ℕ
port = 28

abbrev pub port_encoding : ℕ
port_encoding = 29

abbrev pub num_ports : ℕ
num_ports = 30

abbrev pub proto : ℕ
proto = 31

abbrev pub fmt : ℕ
fmt = 32

abbrev pub media_title : ℕ
media_title = 33

-- "34 s; 35 session i; 36 u; 37 e; 38 p"
abbrev pub name : ℕ
name = 34

abbrev pub description : ℕ
description = 35

abbrev pub uri : ℕ
uri = 36

abbrev pub email : ℕ
email = 37

abbrev pub phone : ℕ
phone = 38
