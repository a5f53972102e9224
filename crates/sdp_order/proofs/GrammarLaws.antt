-- The grammar's parts, as the recognisers take them.
-- Assumes nothing.
use mathlib.Core.Path.{◌≡◌, refl, ◌∙◌}
use mathlib.Core.Bool.{false}
use Rattle.sdp_order.specs.Expression.{letter, ◌·◌, ◌*, ◌⁇, ◌+, maybe_empty, after}
use Rattle.sdp_order.specs.Order.{repeat_description, time_description}
use Rattle.sdp_order.specs.From.{begins, from_times, from_repeats, from_key, from_media, in_media}
use Rattle.sdp_order.proofs.ExpressionLaws.{Same, then_assoc, then_in, after_then, after_one, after-maybe}

-- the first of the times
pub first_time : Same from_times (letter 0x74 · from_repeats)
first_time ls =
    then_assoc time_description (time_description *) from_key ls
    ∙ then_assoc (letter 0x74) (repeat_description ⁇) (time_description * · from_key) ls

-- after the repeats no repeat comes, after the zones none, and after the times no time
pub repeats_end : begins 0x72 (letter 0x7a ⁇ · (time_description * · from_key)) ≡ false
unfolding begins maybe_empty
repeats_end = refl

pub zones_end : begins 0x7a (time_description * · from_key) ≡ false
unfolding begins maybe_empty
zones_end = refl

pub times_end : begins 0x74 from_key ≡ false
unfolding begins maybe_empty
times_end = refl

-- after the first of the repeats more of them, and zones
pub first_repeat : Same (after 0x72 from_repeats) (letter 0x72 * · (letter 0x7a ⁇ · (time_description * · from_key)))
unfolding begins maybe_empty
first_repeat ls =
    after_then 0x72 (repeat_description ⁇) (letter 0x72 * · letter 0x7a ⁇) (time_description * · from_key) (after-maybe 0x72 repeat_description _ (after_then 0x72 (letter 0x72 +) (letter 0x72 *) (letter 0x7a ⁇) (after_one 0x72 (letter 0x72 *)) refl)) refl ls
    ∙ then_assoc (letter 0x72 *) (letter 0x7a ⁇) (time_description * · from_key) ls

-- the lines of a media, and then the next media
pub media-parts : Same (in_media · from_media) (letter 0x69 ⁇ · (letter 0x63 * · (letter 0x62 * · (letter 0x6b ⁇ · (letter 0x61 * · from_media)))))
media-parts =
    then_in _ _ _ _ (then_in _ _ _ _ (then_in _ _ _ _ (then_assoc (letter 0x6b ⁇) (letter 0x61 *) from_media)))
