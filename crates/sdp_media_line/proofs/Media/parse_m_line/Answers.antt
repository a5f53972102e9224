-- `sdp_media_line::Media::parse_m_line` meets its contract: each field is taken out of the definition by its answer. Assumes nothing.
use mathlib.Core.Path.{sym, ap, ◌∙◌}
use Rattle.sdp_judge.specs.Read.{text_of}
use Rattle.sdp_media_line.specs.MediaLine.{port_field, media_of}
use Rattle.sdp_judge.proofs.ReadLaws.{left, by_after}
use Rattle.sdp_split.proofs.SplitLaws.{first_within, after-within, rest_within}
use Rattle.sdp_media_line.proofs.Media.parse_m_line.Goals as goal

pub text_of-requires : goal.text_of-requires
text_of-requires c = rw c.first_piece.ensures (first_within _ _)

pub returns-in_err-media : goal.returns-in_err-media
unfolding media_of
returns-in_err-media c =
    left c.from_residual.ensures
    (by_after _ (c.text_of.ensures ∙ ap (text_of _ _) c.first_piece.ensures) c.in_err-media.was)

pub port_of-requires : goal.port_of-requires
port_of-requires c = rw c.m_piece.ensures (after-within _ _ _)

pub returns-in_err-port : goal.returns-in_err-port
unfolding media_of
returns-in_err-port c =
    left c.from_residual-in_err-port.ensures
    (by_after _ (c.text_of.ensures ∙ ap (text_of _ _) c.first_piece.ensures) c.in_ok-media.was
    ∙ by_after _ (c.port_of.ensures ∙ ap (port_field _) c.m_piece.ensures) c.in_err-port.was)

pub text_of-requires-2 : goal.text_of-requires-2
text_of-requires-2 c = rw c.m_piece-2.ensures (after-within _ _ _)

pub returns-in_err-proto : goal.returns-in_err-proto
unfolding media_of
returns-in_err-proto c =
    left c.from_residual-in_err-proto.ensures
    (by_after _ (c.text_of.ensures ∙ ap (text_of _ _) c.first_piece.ensures) c.in_ok-media.was
    ∙ by_after _ (c.port_of.ensures ∙ ap (port_field _) c.m_piece.ensures) c.in_ok-port.was
    ∙ by_after _ (c.text_of-2.ensures ∙ ap (text_of _ _) c.m_piece-2.ensures) c.in_err-proto.was)

pub text_of-requires-3 : goal.text_of-requires-3
text_of-requires-3 c = rw c.rest_after.ensures (rest_within _ _)

pub returns-in_err-fmt : goal.returns-in_err-fmt
unfolding media_of
returns-in_err-fmt c =
    left c.from_residual-in_err-fmt.ensures
    (by_after _ (c.text_of.ensures ∙ ap (text_of _ _) c.first_piece.ensures) c.in_ok-media.was
    ∙ by_after _ (c.port_of.ensures ∙ ap (port_field _) c.m_piece.ensures) c.in_ok-port.was
    ∙ by_after _ (c.text_of-2.ensures ∙ ap (text_of _ _) c.m_piece-2.ensures) c.in_ok-proto.was
    ∙ by_after _ (c.text_of-3.ensures ∙ ap (text_of _ _) c.rest_after.ensures) c.in_err-fmt.was)

pub returns : goal.returns
unfolding media_of
returns c =
    sym
    (by_after _ (c.text_of.ensures ∙ ap (text_of _ _) c.first_piece.ensures) c.in_ok-media.was
    ∙ by_after _ (c.port_of.ensures ∙ ap (port_field _) c.m_piece.ensures) c.in_ok-port.was
    ∙ by_after _ (c.text_of-2.ensures ∙ ap (text_of _ _) c.m_piece-2.ensures) c.in_ok-proto.was
    ∙ by_after _ (c.text_of-3.ensures ∙ ap (text_of _ _) c.rest_after.ensures) c.in_ok-fmt.was)
