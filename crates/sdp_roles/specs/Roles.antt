-- Document 01, "Lines": which letters have a use at a place. This is the one table of them. Document 02, P4: "a k line has no use anywhere".
use Rattle.std.specs.Prelude.{ℕ, cond, eqb}
use Rattle.sdp_roles.specs.declared.Role.{Role}
use Rattle.sdp_roles.specs.declared.Role.TheVariants.{Origin, Name, Description, Uri, Email, Phone, Connection, Bandwidth, Time, Repeat, Zone}
use Rattle.sdp_roles.specs.declared.Role.TheVariants.{Attribute, Media, MediaTitle, MediaConnection, Nothing}

-- "Before the first `m`, letters o s i u e p c b t r z k a have a use", but k; "an `m` line always has a use, the first one too"
unfoldable pub before_media : ℕ → Role
before_media l =
    cond (eqb l 0x6f) Origin
    (cond (eqb l 0x73) Name
    (cond (eqb l 0x69) Description
    (cond (eqb l 0x75) Uri
    (cond (eqb l 0x65) Email
    (cond (eqb l 0x70) Phone
    (cond (eqb l 0x63) Connection
    (cond (eqb l 0x62) Bandwidth
    (cond (eqb l 0x74) Time
    (cond (eqb l 0x72) Repeat
    (cond (eqb l 0x7a) Zone
    (cond (eqb l 0x61) Attribute
    (cond (eqb l 0x6d) Media Nothing))))))))))))

-- "From an `m` on, letters m i c b k a have a use", but k
unfoldable pub from_media : ℕ → Role
from_media l =
    cond (eqb l 0x6d) Media
    (cond (eqb l 0x69) MediaTitle
    (cond (eqb l 0x63) MediaConnection
    (cond (eqb l 0x62) Bandwidth
    (cond (eqb l 0x61) Attribute Nothing))))

-- the role of a letter, by the number of medias so far
abbrev pub role_at : ℕ → ℕ → Role
role_at medias l = cond (eqb medias 0) (before_media l) (from_media l)
