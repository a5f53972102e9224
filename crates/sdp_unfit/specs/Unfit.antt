-- Document 01, "Refusal numbers": "for writing 2, 1, 23". Document 02 judges other uses of a session in the same way, "as for writing".
use Rattle.std.specs.Prelude.{ℕ, Bool, ◌&&◌, cond, List, length, ltb}
use Rattle.sdp_numbers.specs.Refusals as refusals
use Rattle.sdp_numbers.specs.Refusals.{longest_text}
use Rattle.sdp_area.specs.Columns.{area_size}
use Rattle.sdp_valid.specs.Judge.{well_formed}
use Rattle.sdp_stamp_valid.specs.Fine.{fine_lines}

-- why not, in this order, where an area has n bytes, and fine says whether its session can be used with the text; 0 where it can
abbrev pub in_order : ℕ → Bool → List ℕ → List ℕ → ℕ
in_order n fine t a =
    cond (ltb (length a) n) refusals.area_too_short
    (cond (ltb longest_text (length t)) refusals.text_too_long
    (cond fine 0 refusals.bad_session))

-- why the session of the area a can't be used with the text t
unfoldable pub unfit : List ℕ → List ℕ → ℕ
unfit t a = in_order area_size (well_formed a t && fine_lines a) t a
