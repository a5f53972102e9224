-- Of each public function: its promise has one answer only, and leaves one state of what was lent. `Learnt` is what a caller learns by the
-- function's contract, as the toolchain reads it from the source. docs/ONE-ANSWER.md lists them. Assumes nothing.
use mathlib.Core.Path.{refl, ap₂}
use Rattle.sdp_one.specs.One.{OneAnswer, OneSeen, OneState, OnePut}
use Rattle.sdp_one.proofs.OneLaws.{same, same_put}
use Rattle.sdp_unfit.proofs.UnfitLaws.{refusal_tells}
use Prim.Native.Nat.{ℕ}
use Rattle.sdp_listing.specs.Columns.{Columns, held}
use Rattle.sdp_bytes.proofs.runs.eight.Reads as sdpBytesRunsEight
use Rattle.sdp_bytes.proofs.runs.run_len.Reads as sdpBytesRunsRunLen
use Rattle.sdp_bytes.proofs.search.index_of.Reads as sdpBytesSearchIndexOf
use Rattle.sdp_bytes.proofs.token.token_char.Reads as sdpBytesTokenTokenChar
use Rattle.sdp_bytes.proofs.token.is_token.Reads as sdpBytesTokenIsToken
use Rattle.sdp_utf8.proofs.utf8_end.Reads as sdpUtf8Utf8End
use Rattle.sdp_utf8.proofs.is_utf8.Reads as sdpUtf8IsUtf8
use Rattle.sdp_number.proofs.number64.Reads as sdpNumberNumber64
use Rattle.sdp_number.proofs.number16.Reads as sdpNumberNumber16
use Rattle.sdp_number.proofs.typed_time.Reads as sdpNumberTypedTime
use Rattle.sdp_lines.proofs.Cursor.new.Reads as sdpLinesCursorNew
use Rattle.sdp_lines.proofs.Cursor.cut.Reads as sdpLinesCursorCut
use Rattle.sdp_lines.proofs.Fault.number.Reads as sdpLinesFaultNumber
use Rattle.sdp_lines.proofs.Answer.on_line.Reads as sdpLinesAnswerOnLine
use Rattle.sdp_lines.proofs.Answer.plain.Reads as sdpLinesAnswerPlain
use Rattle.sdp_cutter.proofs.move_at.Reads as sdpCutterMoveAt
use Rattle.sdp_split.proofs.Piece.of.Reads as sdpSplitPieceOf
use Rattle.sdp_split.proofs.word_at.Reads as sdpSplitWordAt
use Rattle.sdp_split.proofs.first_piece.Reads as sdpSplitFirstPiece
use Rattle.sdp_split.proofs.piece_after.Reads as sdpSplitPieceAfter
use Rattle.sdp_split.proofs.rest_after.Reads as sdpSplitRestAfter
use Rattle.sdp_judge.proofs.wrong_of.Reads as sdpJudgeWrongOf
use Rattle.sdp_judge.proofs.not_utf8.Reads as sdpJudgeNotUtf8
use Rattle.sdp_judge.proofs.text_of.Reads as sdpJudgeTextOf
use Rattle.sdp_judge.proofs.number_of.Reads as sdpJudgeNumberOf
use Rattle.sdp_judge.proofs.time_of.Reads as sdpJudgeTimeOf
use Rattle.sdp_judge.proofs.choice_of.Reads as sdpJudgeChoiceOf
use Rattle.sdp_judge.proofs.word_text.Reads as sdpJudgeWordText
use Rattle.sdp_judge.proofs.word_token.Reads as sdpJudgeWordToken
use Rattle.sdp_judge.proofs.word_number.Reads as sdpJudgeWordNumber
use Rattle.sdp_judge.proofs.word_time.Reads as sdpJudgeWordTime
use Rattle.sdp_judge.proofs.whole.Reads as sdpJudgeWhole
use Rattle.sdp_judge.proofs.offset_of.Reads as sdpJudgeOffsetOf
use Rattle.sdp_fields.proofs.Origin.parse.Reads as sdpFieldsOriginParse
use Rattle.sdp_fields.proofs.Connection.parse.Reads as sdpFieldsConnectionParse
use Rattle.sdp_fields.proofs.Bandwidth.parse.Reads as sdpFieldsBandwidthParse
use Rattle.sdp_fields.proofs.Time.parse.Reads as sdpFieldsTimeParse
use Rattle.sdp_fields.proofs.Attribute.parse.Reads as sdpFieldsAttributeParse
use Rattle.sdp_media_line.proofs.Media.parse_m_line.Reads as sdpMediaLineMediaParseMLine
use Rattle.sdp_lists.proofs.RepeatHead.parse.Reads as sdpListsRepeatHeadParse
use Rattle.sdp_lists.proofs.repeat_offset.Reads as sdpListsRepeatOffset
use Rattle.sdp_lists.proofs.Zone.parse.Reads as sdpListsZoneParse
use Rattle.sdp_cells.proofs.get2.Reads as sdpCellsGet2
use Rattle.sdp_cells.proofs.get8.Reads as sdpCellsGet8
use Rattle.sdp_cells.proofs.put_words.Reads as sdpCellsPutWords
use Rattle.sdp_cells.proofs.push_words.Reads as sdpCellsPushWords
use Rattle.sdp_cells.proofs.marked.Reads as sdpCellsMarked
use Rattle.sdp_area.proofs.clear.Reads as sdpAreaClear
use Rattle.sdp_area.proofs.push_contact.Reads as sdpAreaPushContact
use Rattle.sdp_area.proofs.push_connection.Reads as sdpAreaPushConnection
use Rattle.sdp_area.proofs.push_bandwidth.Reads as sdpAreaPushBandwidth
use Rattle.sdp_area.proofs.push_time.Reads as sdpAreaPushTime
use Rattle.sdp_area.proofs.push_repeat.Reads as sdpAreaPushRepeat
use Rattle.sdp_area.proofs.push_offset.Reads as sdpAreaPushOffset
use Rattle.sdp_area.proofs.push_zone.Reads as sdpAreaPushZone
use Rattle.sdp_area.proofs.push_attribute.Reads as sdpAreaPushAttribute
use Rattle.sdp_area.proofs.push_media.Reads as sdpAreaPushMedia
use Rattle.sdp_area.proofs.set_origin.Reads as sdpAreaSetOrigin
use Rattle.sdp_area.proofs.set_name.Reads as sdpAreaSetName
use Rattle.sdp_area.proofs.set_text.Reads as sdpAreaSetText
use Rattle.sdp_area.proofs.set_connection.Reads as sdpAreaSetConnection
use Rattle.sdp_area.proofs.has_origin.Reads as sdpAreaHasOrigin
use Rattle.sdp_area.proofs.has_text.Reads as sdpAreaHasText
use Rattle.sdp_area.proofs.has_connection.Reads as sdpAreaHasConnection
use Rattle.sdp_area.proofs.times.Reads as sdpAreaTimes
use Rattle.sdp_area.proofs.offsets.Reads as sdpAreaOffsets
use Rattle.sdp_area.proofs.repeats.Reads as sdpAreaRepeats
use Rattle.sdp_area.proofs.medias.Reads as sdpAreaMedias
use Rattle.sdp_roles.proofs.role_at.Reads as sdpRolesRoleAt
use Rattle.sdp_strings.proofs.span_of.Reads as sdpStringsSpanOf
use Rattle.sdp_strings.proofs.maybe_of.Reads as sdpStringsMaybeOf
use Rattle.sdp_step.proofs.stored.Reads as sdpStepStored
use Rattle.sdp_stamp.proofs.stamp.Reads as sdpStampStamp
use Rattle.sdp_line.proofs.opening_line.Reads as sdpLineOpeningLine
use Rattle.sdp_turn.proofs.State.counts.Reads as sdpTurnStateCounts
use Rattle.sdp_read.proofs.read.Reads as sdpReadRead
use Rattle.sdp_put.proofs.Out.byte.Reads as sdpPutOutByte
use Rattle.sdp_put.proofs.Out.two.Reads as sdpPutOutTwo
use Rattle.sdp_put.proofs.dropped.Reads as sdpPutDropped
use Rattle.sdp_put.proofs.Out.all.Reads as sdpPutOutAll
use Rattle.sdp_put.proofs.Out.text.Reads as sdpPutOutText
use Rattle.sdp_put.proofs.text_len.Reads as sdpPutTextLen
use Rattle.sdp_put.proofs.Out.number.Reads as sdpPutOutNumber
use Rattle.sdp_put.proofs.Out.time.Reads as sdpPutOutTime
use Rattle.sdp_put.proofs.Out.offset.Reads as sdpPutOutOffset
use Rattle.sdp_decode.proofs.num2.Reads as sdpDecodeNum2
use Rattle.sdp_decode.proofs.num8.Reads as sdpDecodeNum8
use Rattle.sdp_valid.proofs.judge.Reads as sdpValidJudge
use Rattle.sdp_stamp_valid.proofs.lines_fine.Reads as sdpStampValidLinesFine
use Rattle.sdp_unfit.proofs.unfit.Reads as sdpUnfitUnfit
use Rattle.sdp_unfit.proofs.U64FromMisfit.from.Reads as sdpUnfitNumberOf
use Rattle.sdp_room.proofs.room_for.Reads as sdpRoomRoomFor
use Rattle.sdp_length.proofs.length_of.Reads as sdpLengthLengthOf
use Rattle.sdp_row.proofs.put_string.Reads as sdpRowPutString
use Rattle.sdp_row.proofs.put_string_line.Reads as sdpRowPutStringLine
use Rattle.sdp_row.proofs.put_maybe_line.Reads as sdpRowPutMaybeLine
use Rattle.sdp_row.proofs.put_spaced_time.Reads as sdpRowPutSpacedTime
use Rattle.sdp_row.proofs.put_origin.Reads as sdpRowPutOrigin
use Rattle.sdp_row.proofs.put_connection.Reads as sdpRowPutConnection
use Rattle.sdp_row.proofs.put_session_connection.Reads as sdpRowPutSessionConnection
use Rattle.sdp_row.proofs.put_time_line.Reads as sdpRowPutTimeLine
use Rattle.sdp_row.proofs.put_media_line.Reads as sdpRowPutMediaLine
use Rattle.sdp_table_row.proofs.put_bandwidth.Reads as sdpTableRowPutBandwidth
use Rattle.sdp_table_row.proofs.put_attribute.Reads as sdpTableRowPutAttribute
use Rattle.sdp_table_row.proofs.put_offset.Reads as sdpTableRowPutOffset
use Rattle.sdp_table_row.proofs.put_zone.Reads as sdpTableRowPutZone
use Rattle.sdp_tables.proofs.put_contact.Reads as sdpTablesPutContact
use Rattle.sdp_tables.proofs.put_closing.Reads as sdpTablesPutClosing
use Rattle.sdp_tables.proofs.put_medias.Reads as sdpTablesPutMedias
use Rattle.sdp_write.proofs.length.Reads as sdpWriteLength
use Rattle.sdp_write.proofs.fill.Reads as sdpWriteFill
use Rattle.sdp_window.proofs.run_in_part.Reads as sdpWindowRunInPart
use Rattle.sdp_listing.proofs.Listing.put_run.Reads as sdpListingListingPutRun
use Rattle.sdp_starts.proofs.starts_in.Reads as sdpStartsStartsIn
use Rattle.sdp_order.proofs.letter_order.Reads as sdpOrderLetterOrder
use Rattle.sdp_order.proofs.VerdictFromResultBoolRefusal.from.Reads as sdpOrderVerdictOf
use Rattle.sdp_builders.proofs.Origin.username.Reads as sdpBuildersOriginUsername
use Rattle.sdp_builders.proofs.Media.num_ports.Reads as sdpBuildersMediaNumPorts
use Rattle.sdp_answers.proofs.NumeralFromResultU64NumberError.from.Reads as sdpAnswersNumeralOf
use Rattle.sdp_answers.proofs.piece_of.Reads as sdpAnswersPieceOf
use Rattle.sdp.proofs.sdp_utf8_end.Reads as sdpSdpUtf8End
use Rattle.sdp.proofs.sdp_is_token.Reads as sdpSdpIsToken
use Rattle.sdp.proofs.sdp_number16.Reads as sdpSdpNumber16
use Rattle.sdp.proofs.sdp_number64.Reads as sdpSdpNumber64
use Rattle.sdp.proofs.sdp_typed_time.Reads as sdpSdpTypedTime
use Rattle.sdp.proofs.sdp_cut.Reads as sdpSdpCut
use Rattle.sdp.proofs.sdp_read.Reads as sdpSdpRead
use Rattle.sdp.proofs.sdp_length.Reads as sdpSdpLength
use Rattle.sdp.proofs.sdp_fill.Reads as sdpSdpFill
use Rattle.sdp.proofs.sdp_letter_order.Reads as sdpSdpLetterOrder
use Rattle.sdp.proofs.sdp_starts.Reads as sdpSdpStarts
use Rattle.sdp.proofs.sdp_area_size.Reads as sdpSdpAreaSize

-- ---- sdp_bytes
pub sdp_bytes_runs_eight : OneAnswer sdpBytesRunsEight.Learnt
sdp_bytes_runs_eight κs a z z' e e' p q = same p q

pub sdp_bytes_runs_run_len : OneAnswer sdpBytesRunsRunLen.Learnt
sdp_bytes_runs_run_len κs a z z' e e' p q = same p q

pub sdp_bytes_search_index_of : OneAnswer sdpBytesSearchIndexOf.Learnt
sdp_bytes_search_index_of κs a z z' e e' p q = same p q

pub sdp_bytes_token_token_char : OneAnswer sdpBytesTokenTokenChar.Learnt
sdp_bytes_token_token_char κs a z z' e e' p q = same p q

pub sdp_bytes_token_is_token : OneAnswer sdpBytesTokenIsToken.Learnt
sdp_bytes_token_is_token κs a z z' e e' p q = same p q

-- ---- sdp_utf8
pub sdp_utf8_utf8_end : OneAnswer sdpUtf8Utf8End.Learnt
sdp_utf8_utf8_end κs a z z' e e' p q = same p q

pub sdp_utf8_is_utf8 : OneAnswer sdpUtf8IsUtf8.Learnt
sdp_utf8_is_utf8 κs a z z' e e' p q = same p q

-- ---- sdp_number
pub sdp_number_number64 : OneAnswer sdpNumberNumber64.Learnt
sdp_number_number64 κs a z z' e e' p q = same p q

pub sdp_number_number16 : OneAnswer sdpNumberNumber16.Learnt
sdp_number_number16 κs a z z' e e' p q = same p q

pub sdp_number_typed_time : OneAnswer sdpNumberTypedTime.Learnt
sdp_number_typed_time κs a z z' e e' p q = same p q

-- ---- sdp_lines
pub sdp_lines_Cursor_new : OneAnswer sdpLinesCursorNew.Learnt
sdp_lines_Cursor_new κs a z z' e e' p q = same p q

pub sdp_lines_Cursor_cut : OneAnswer sdpLinesCursorCut.Learnt
sdp_lines_Cursor_cut κs a z z' e e' p q = same p q

pub sdp_lines_fault_number : OneAnswer sdpLinesFaultNumber.Learnt
sdp_lines_fault_number κs a z z' e e' p q = same p q

pub sdp_lines_Answer_on_line : OneAnswer sdpLinesAnswerOnLine.Learnt
sdp_lines_Answer_on_line κs a z z' e e' p q = same p q

pub sdp_lines_Answer_plain : OneAnswer sdpLinesAnswerPlain.Learnt
sdp_lines_Answer_plain κs a z z' e e' p q = same p q

-- ---- sdp_cutter
pub sdp_cutter_move_at : OneAnswer sdpCutterMoveAt.Learnt
sdp_cutter_move_at κs a z z' e e' p q = same p q

-- ---- sdp_split
pub sdp_split_Piece_of : OneSeen (λ κs z. z.now) sdpSplitPieceOf.Learnt
sdp_split_Piece_of κs a z z' e e' p q = same p q

pub sdp_split_word_at : OneAnswer sdpSplitWordAt.Learnt
sdp_split_word_at κs a z z' e e' p q = same p q

pub sdp_split_first_piece : OneAnswer sdpSplitFirstPiece.Learnt
sdp_split_first_piece κs a z z' e e' p q = same p q

pub sdp_split_piece_after : OneAnswer sdpSplitPieceAfter.Learnt
sdp_split_piece_after κs a z z' e e' p q = same p q

pub sdp_split_rest_after : OneAnswer sdpSplitRestAfter.Learnt
sdp_split_rest_after κs a z z' e e' p q = same p q

-- ---- sdp_judge
pub sdp_judge_wrong_of : OneAnswer sdpJudgeWrongOf.Learnt
sdp_judge_wrong_of κs a z z' e e' p q = same p q

pub sdp_judge_not_utf8 : OneAnswer sdpJudgeNotUtf8.Learnt
sdp_judge_not_utf8 κs a z z' e e' p q = same p q

pub sdp_judge_text_of : OneAnswer sdpJudgeTextOf.Learnt
sdp_judge_text_of κs a z z' e e' p q = same p q

pub sdp_judge_number_of : OneAnswer sdpJudgeNumberOf.Learnt
sdp_judge_number_of κs a z z' e e' p q = same p q

pub sdp_judge_time_of : OneAnswer sdpJudgeTimeOf.Learnt
sdp_judge_time_of κs a z z' e e' p q = same p q

pub sdp_judge_choice_of : OneAnswer sdpJudgeChoiceOf.Learnt
sdp_judge_choice_of κs a z z' e e' p q = same p q

pub sdp_judge_word_text : OneAnswer sdpJudgeWordText.Learnt
sdp_judge_word_text κs a z z' e e' p q = same p q

pub sdp_judge_word_token : OneAnswer sdpJudgeWordToken.Learnt
sdp_judge_word_token κs a z z' e e' p q = same p q

pub sdp_judge_word_number : OneAnswer sdpJudgeWordNumber.Learnt
sdp_judge_word_number κs a z z' e e' p q = same p q

pub sdp_judge_word_time : OneAnswer sdpJudgeWordTime.Learnt
sdp_judge_word_time κs a z z' e e' p q = same p q

pub sdp_judge_whole : OneAnswer sdpJudgeWhole.Learnt
sdp_judge_whole κs a z z' e e' p q = same p q

pub sdp_judge_offset_of : OneAnswer sdpJudgeOffsetOf.Learnt
sdp_judge_offset_of κs a z z' e e' p q = same p q

-- ---- sdp_fields
pub sdp_fields_Origin_parse : OneAnswer sdpFieldsOriginParse.Learnt
sdp_fields_Origin_parse κs a z z' e e' p q = same p q

pub sdp_fields_Connection_parse : OneAnswer sdpFieldsConnectionParse.Learnt
sdp_fields_Connection_parse κs a z z' e e' p q = same p q

pub sdp_fields_Bandwidth_parse : OneAnswer sdpFieldsBandwidthParse.Learnt
sdp_fields_Bandwidth_parse κs a z z' e e' p q = same p q

pub sdp_fields_Time_parse : OneAnswer sdpFieldsTimeParse.Learnt
sdp_fields_Time_parse κs a z z' e e' p q = same p q

pub sdp_fields_Attribute_parse : OneAnswer sdpFieldsAttributeParse.Learnt
sdp_fields_Attribute_parse κs a z z' e e' p q = same p q

-- ---- sdp_media_line
pub sdp_media_line_Media_parse_m_line : OneAnswer sdpMediaLineMediaParseMLine.Learnt
sdp_media_line_Media_parse_m_line κs a z z' e e' p q = same p q

-- ---- sdp_lists
pub sdp_lists_Repeat_head_parse : OneAnswer sdpListsRepeatHeadParse.Learnt
sdp_lists_Repeat_head_parse κs a z z' e e' p q = same p q

pub sdp_lists_repeat_offset : OneAnswer sdpListsRepeatOffset.Learnt
sdp_lists_repeat_offset κs a z z' e e' p q = same p q

pub sdp_lists_Zone_parse : OneAnswer sdpListsZoneParse.Learnt
sdp_lists_Zone_parse κs a z z' e e' p q = same p q

-- ---- sdp_cells
pub sdp_cells_get2 : OneAnswer sdpCellsGet2.Learnt
sdp_cells_get2 κs a z z' e e' p q = same p.0 q.0

pub sdp_cells_get8 : OneAnswer sdpCellsGet8.Learnt
sdp_cells_get8 κs a z z' e e' p q = same p q

pub sdp_cells_put_words : OneState (λ κs e. e.0.now) sdpCellsPutWords.Learnt
sdp_cells_put_words κs a z z' e e' p q = (refl, same p q)

pub sdp_cells_push_words : OneState (λ κs e. e.0.now) sdpCellsPushWords.Learnt
sdp_cells_push_words κs a z z' e e' p q = (same p.0 q.0, same p.1 q.1)

pub sdp_cells_marked : OneAnswer sdpCellsMarked.Learnt
sdp_cells_marked κs a z z' e e' p q = same p q

-- ---- sdp_area
pub sdp_area_clear : OneState (λ κs e. e.0.now) sdpAreaClear.Learnt
sdp_area_clear κs a z z' e e' p q = (refl, same p q)

pub sdp_area_push_contact : OneState (λ κs e. e.0.now) sdpAreaPushContact.Learnt
sdp_area_push_contact κs a z z' e e' p q = (same p.0 q.0, same p.1 q.1)

pub sdp_area_push_connection : OneState (λ κs e. e.0.now) sdpAreaPushConnection.Learnt
sdp_area_push_connection κs a z z' e e' p q = (same p.0 q.0, same p.1 q.1)

pub sdp_area_push_bandwidth : OneState (λ κs e. e.0.now) sdpAreaPushBandwidth.Learnt
sdp_area_push_bandwidth κs a z z' e e' p q = (same p.0 q.0, same p.1 q.1)

pub sdp_area_push_time : OneState (λ κs e. e.0.now) sdpAreaPushTime.Learnt
sdp_area_push_time κs a z z' e e' p q = (same p.0 q.0, same p.1 q.1)

pub sdp_area_push_repeat : OneState (λ κs e. e.0.now) sdpAreaPushRepeat.Learnt
sdp_area_push_repeat κs a z z' e e' p q = (same p.0 q.0, same p.1 q.1)

pub sdp_area_push_offset : OneState (λ κs e. e.0.now) sdpAreaPushOffset.Learnt
sdp_area_push_offset κs a z z' e e' p q = (same p.0 q.0, same p.1 q.1)

pub sdp_area_push_zone : OneState (λ κs e. e.0.now) sdpAreaPushZone.Learnt
sdp_area_push_zone κs a z z' e e' p q = (same p.0 q.0, same p.1 q.1)

pub sdp_area_push_attribute : OneState (λ κs e. e.0.now) sdpAreaPushAttribute.Learnt
sdp_area_push_attribute κs a z z' e e' p q = (same p.0 q.0, same p.1 q.1)

pub sdp_area_push_media : OneState (λ κs e. e.0.now) sdpAreaPushMedia.Learnt
sdp_area_push_media κs a z z' e e' p q = (same p.0 q.0, same p.1 q.1)

pub sdp_area_set_origin : OneState (λ κs e. e.0.now) sdpAreaSetOrigin.Learnt
sdp_area_set_origin κs a z z' e e' p q = (refl, same p q)

pub sdp_area_set_name : OneState (λ κs e. e.0.now) sdpAreaSetName.Learnt
sdp_area_set_name κs a z z' e e' p q = (refl, same p q)

pub sdp_area_set_text : OneState (λ κs e. e.0.now) sdpAreaSetText.Learnt
sdp_area_set_text κs a z z' e e' p q = (refl, same p q)

pub sdp_area_set_connection : OneState (λ κs e. e.0.now) sdpAreaSetConnection.Learnt
sdp_area_set_connection κs a z z' e e' p q = (refl, same p q)

pub sdp_area_has_origin : OneAnswer sdpAreaHasOrigin.Learnt
sdp_area_has_origin κs a z z' e e' p q = same p q

pub sdp_area_has_text : OneAnswer sdpAreaHasText.Learnt
sdp_area_has_text κs a z z' e e' p q = same p q

pub sdp_area_has_connection : OneAnswer sdpAreaHasConnection.Learnt
sdp_area_has_connection κs a z z' e e' p q = same p q

pub sdp_area_times : OneAnswer sdpAreaTimes.Learnt
sdp_area_times κs a z z' e e' p q = same p.0 q.0

pub sdp_area_offsets : OneAnswer sdpAreaOffsets.Learnt
sdp_area_offsets κs a z z' e e' p q = same p.0 q.0

pub sdp_area_repeats : OneAnswer sdpAreaRepeats.Learnt
sdp_area_repeats κs a z z' e e' p q = same p.0 q.0

pub sdp_area_medias : OneAnswer sdpAreaMedias.Learnt
sdp_area_medias κs a z z' e e' p q = same p.0 q.0

-- ---- sdp_roles
pub sdp_roles_role_at : OneAnswer sdpRolesRoleAt.Learnt
sdp_roles_role_at κs a z z' e e' p q = same p q

-- ---- sdp_strings
pub sdp_strings_span_of : OneAnswer sdpStringsSpanOf.Learnt
sdp_strings_span_of κs a z z' e e' p q = same p q

pub sdp_strings_maybe_of : OneAnswer sdpStringsMaybeOf.Learnt
sdp_strings_maybe_of κs a z z' e e' p q = same p q

-- ---- sdp_step
pub sdp_step_stored : OneAnswer sdpStepStored.Learnt
sdp_step_stored κs a z z' e e' p q = same p q

-- ---- sdp_stamp
pub sdp_stamp_stamp : OneState (λ κs e. e.0.now) sdpStampStamp.Learnt
sdp_stamp_stamp κs a z z' e e' p q = (refl, same p q)

-- ---- sdp_line
pub sdp_line_opening_line : OneAnswer sdpLineOpeningLine.Learnt
sdp_line_opening_line κs a z z' e e' p q = same p q

-- ---- sdp_turn
pub sdp_turn_State_counts : OneAnswer sdpTurnStateCounts.Learnt
sdp_turn_State_counts κs a z z' e e' p q = same p q

-- ---- sdp_read
pub sdp_read_read : OneState (λ κs e. e.1.0.now) sdpReadRead.Learnt
sdp_read_read κs a z z' e e' p q = (same p.0 q.0, same p.1 q.1)

-- ---- sdp_put
pub sdp_put_Out_byte : OnePut (λ κs a. a.0.now) (λ κs e. e.0.now) sdpPutOutByte.Learnt
sdp_put_Out_byte κs a z z' e e' l k p q = same_put l k p q

pub sdp_put_Out_two : OnePut (λ κs a. a.0.now) (λ κs e. e.0.now) sdpPutOutTwo.Learnt
sdp_put_Out_two κs a z z' e e' l k p q = same_put l k p q

pub sdp_put_dropped : OneAnswer sdpPutDropped.Learnt
sdp_put_dropped κs a z z' e e' p q = same p q

pub sdp_put_Out_all : OnePut (λ κs a. a.0.now) (λ κs e. e.0.now) sdpPutOutAll.Learnt
sdp_put_Out_all κs a z z' e e' l k p q = same_put l k p q

pub sdp_put_Out_text : OnePut (λ κs a. a.0.now) (λ κs e. e.0.now) sdpPutOutText.Learnt
sdp_put_Out_text κs a z z' e e' l k p q = same_put l k p q

pub sdp_put_text_len : OneAnswer sdpPutTextLen.Learnt
sdp_put_text_len κs a z z' e e' p q = same p.0 q.0

pub sdp_put_Out_number : OnePut (λ κs a. a.0.now) (λ κs e. e.0.now) sdpPutOutNumber.Learnt
sdp_put_Out_number κs a z z' e e' l k p q = same_put l k p q

pub sdp_put_Out_time : OnePut (λ κs a. a.0.now) (λ κs e. e.0.now) sdpPutOutTime.Learnt
sdp_put_Out_time κs a z z' e e' l k p q = same_put l k p q

pub sdp_put_Out_offset : OnePut (λ κs a. a.0.now) (λ κs e. e.0.now) sdpPutOutOffset.Learnt
sdp_put_Out_offset κs a z z' e e' l k p q = same_put l k p q

-- ---- sdp_decode
pub sdp_decode_num2 : OneAnswer sdpDecodeNum2.Learnt
sdp_decode_num2 κs a z z' e e' p q = same p.0 q.0

pub sdp_decode_num8 : OneAnswer sdpDecodeNum8.Learnt
sdp_decode_num8 κs a z z' e e' p q = same p q

-- ---- sdp_valid
pub sdp_valid_judge : OneAnswer sdpValidJudge.Learnt
sdp_valid_judge κs a z z' e e' p q = same p q

-- ---- sdp_stamp_valid
pub sdp_stamp_valid_lines_fine : OneAnswer sdpStampValidLinesFine.Learnt
sdp_stamp_valid_lines_fine κs a z z' e e' p q = same p q

-- ---- sdp_unfit
pub sdp_unfit_unfit : OneAnswer sdpUnfitUnfit.Learnt
sdp_unfit_unfit κs a z z' e e' p q = refusal_tells z z' (same p q)

pub sdp_unfit_number_of : OneAnswer sdpUnfitNumberOf.Learnt
sdp_unfit_number_of κs a z z' e e' p q = same p q

-- ---- sdp_room
pub sdp_room_room_for : OneAnswer sdpRoomRoomFor.Learnt
sdp_room_room_for κs a z z' e e' p q = same p.0 q.0

-- ---- sdp_length
pub sdp_length_length_of : OneAnswer sdpLengthLengthOf.Learnt
sdp_length_length_of κs a z z' e e' p q = same p.0 q.0

-- ---- sdp_row
pub sdp_row_put_string : OnePut (λ κs a. a.0.now) (λ κs e. e.0.now) sdpRowPutString.Learnt
sdp_row_put_string κs a z z' e e' l k p q = same_put l k p q

pub sdp_row_put_string_line : OnePut (λ κs a. a.0.now) (λ κs e. e.0.now) sdpRowPutStringLine.Learnt
sdp_row_put_string_line κs a z z' e e' l k p q = same_put l k p q

pub sdp_row_put_maybe_line : OnePut (λ κs a. a.0.now) (λ κs e. e.0.now) sdpRowPutMaybeLine.Learnt
sdp_row_put_maybe_line κs a z z' e e' l k p q = same_put l k p q

pub sdp_row_put_spaced_time : OnePut (λ κs a. a.0.now) (λ κs e. e.0.now) sdpRowPutSpacedTime.Learnt
sdp_row_put_spaced_time κs a z z' e e' l k p q = same_put l k p q

pub sdp_row_put_origin : OnePut (λ κs a. a.0.now) (λ κs e. e.0.now) sdpRowPutOrigin.Learnt
sdp_row_put_origin κs a z z' e e' l k p q = same_put l k p q

pub sdp_row_put_connection : OnePut (λ κs a. a.0.now) (λ κs e. e.0.now) sdpRowPutConnection.Learnt
sdp_row_put_connection κs a z z' e e' l k p q = same_put l k p q

pub sdp_row_put_session_connection : OnePut (λ κs a. a.0.now) (λ κs e. e.0.now) sdpRowPutSessionConnection.Learnt
sdp_row_put_session_connection κs a z z' e e' l k p q = same_put l k p q

pub sdp_row_put_time_line : OnePut (λ κs a. a.0.now) (λ κs e. e.0.now) sdpRowPutTimeLine.Learnt
sdp_row_put_time_line κs a z z' e e' l k p q = same_put l k p q

pub sdp_row_put_media_line : OnePut (λ κs a. a.0.now) (λ κs e. e.0.now) sdpRowPutMediaLine.Learnt
sdp_row_put_media_line κs a z z' e e' l k p q = same_put l k p q

-- ---- sdp_table_row
pub sdp_table_row_put_bandwidth : OnePut (λ κs a. a.0.now) (λ κs e. e.0.now) sdpTableRowPutBandwidth.Learnt
sdp_table_row_put_bandwidth κs a z z' e e' l k p q = same_put l k p q

pub sdp_table_row_put_attribute : OnePut (λ κs a. a.0.now) (λ κs e. e.0.now) sdpTableRowPutAttribute.Learnt
sdp_table_row_put_attribute κs a z z' e e' l k p q = same_put l k p q

pub sdp_table_row_put_offset : OnePut (λ κs a. a.0.now) (λ κs e. e.0.now) sdpTableRowPutOffset.Learnt
sdp_table_row_put_offset κs a z z' e e' l k p q = same_put l k p q

pub sdp_table_row_put_zone : OnePut (λ κs a. a.0.now) (λ κs e. e.0.now) sdpTableRowPutZone.Learnt
sdp_table_row_put_zone κs a z z' e e' l k p q = same_put l k p q

-- ---- sdp_tables
pub sdp_tables_put_contact : OnePut (λ κs a. a.0.now) (λ κs e. e.0.now) sdpTablesPutContact.Learnt
sdp_tables_put_contact κs a z z' e e' l k p q = same_put l k p q

pub sdp_tables_put_closing : OnePut (λ κs a. a.0.now) (λ κs e. e.0.now) sdpTablesPutClosing.Learnt
sdp_tables_put_closing κs a z z' e e' l k p q = same_put l k p q

pub sdp_tables_put_medias : OnePut (λ κs a. a.0.now) (λ κs e. e.0.now) sdpTablesPutMedias.Learnt
sdp_tables_put_medias κs a z z' e e' l k p q = same_put l k p q

-- ---- sdp_write
pub sdp_write_length : OneAnswer sdpWriteLength.Learnt
sdp_write_length κs a z z' e e' p q = same p q

pub sdp_write_fill : OneState (λ κs e. e.1.1.0.now) sdpWriteFill.Learnt
sdp_write_fill κs a z z' e e' p q = (same p.0 q.0, same p.1 q.1)

-- ---- sdp_window
pub sdp_window_run_in_part : OneAnswer sdpWindowRunInPart.Learnt
sdp_window_run_in_part κs a z z' e e' p q = same p q

-- ---- sdp_listing
-- the state of a list that is lent: what its three arrays hold, how many starts it has, and which arrays they are, by their ghost names
abbrev pub listed : {N : Type 0} → Columns → ℕ → N → N → N → Columns × ℕ × N × N × N
listed c n a t r = (c, n, a, t, r)

pub sdp_listing_Listing_put_run : OneState (λ κs e. let l = e.0.now in listed (held l) l.len l.at.ghost_name l.time.ghost_name l.repeat.ghost_name) sdpListingListingPutRun.Learnt
sdp_listing_Listing_put_run κs a z z' e e' p q =
    (refl, ap₂ (λ f r. f r) (ap₂ (λ f t. f t) (ap₂ (λ f x. f x) (ap₂ listed (same p.0 q.0) (same p.1.0 q.1.0)) (same p.1.1.0 q.1.1.0)) (same p.1.1.1 q.1.1.1)) (same p.1.1.2 q.1.1.2))

-- ---- sdp_starts
pub sdp_starts_starts_in : OneAnswer sdpStartsStartsIn.Learnt
sdp_starts_starts_in κs a z z' e e' p q = same p q

-- ---- sdp_order
pub sdp_order_letter_order : OneAnswer sdpOrderLetterOrder.Learnt
sdp_order_letter_order κs a z z' e e' p q = same p q

pub sdp_order_verdict_of : OneAnswer sdpOrderVerdictOf.Learnt
sdp_order_verdict_of κs a z z' e e' p q = same p q

-- ---- sdp_builders
pub sdp_builders_Origin_username : OneAnswer sdpBuildersOriginUsername.Learnt
sdp_builders_Origin_username κs a z z' e e' p q = same p q

pub sdp_builders_Media_num_ports : OneAnswer sdpBuildersMediaNumPorts.Learnt
sdp_builders_Media_num_ports κs a z z' e e' p q = same p q

-- ---- sdp_answers
pub sdp_answers_numeral_of : OneAnswer sdpAnswersNumeralOf.Learnt
sdp_answers_numeral_of κs a z z' e e' p q = same p q

pub sdp_answers_piece_of : OneAnswer sdpAnswersPieceOf.Learnt
sdp_answers_piece_of κs a z z' e e' p q = same p q

-- ---- sdp
pub sdp_sdp_utf8_end : OneAnswer sdpSdpUtf8End.Learnt
sdp_sdp_utf8_end κs a z z' e e' p q = same p q

pub sdp_sdp_is_token : OneAnswer sdpSdpIsToken.Learnt
sdp_sdp_is_token κs a z z' e e' p q = same p q

pub sdp_sdp_number16 : OneAnswer sdpSdpNumber16.Learnt
sdp_sdp_number16 κs a z z' e e' p q = same p q

pub sdp_sdp_number64 : OneAnswer sdpSdpNumber64.Learnt
sdp_sdp_number64 κs a z z' e e' p q = same p q

pub sdp_sdp_typed_time : OneAnswer sdpSdpTypedTime.Learnt
sdp_sdp_typed_time κs a z z' e e' p q = same p q

pub sdp_sdp_cut : OneAnswer sdpSdpCut.Learnt
sdp_sdp_cut κs a z z' e e' p q = same p q

pub sdp_sdp_read : OneState (λ κs e. e.1.0.now) sdpSdpRead.Learnt
sdp_sdp_read κs a z z' e e' p q = (same p.0 q.0, same p.1 q.1)

pub sdp_sdp_length : OneAnswer sdpSdpLength.Learnt
sdp_sdp_length κs a z z' e e' p q = same p q

pub sdp_sdp_fill : OneState (λ κs e. e.1.1.0.now) sdpSdpFill.Learnt
sdp_sdp_fill κs a z z' e e' p q = (same p.0 q.0, same p.1 q.1)

pub sdp_sdp_letter_order : OneAnswer sdpSdpLetterOrder.Learnt
sdp_sdp_letter_order κs a z z' e e' p q = same p q

pub sdp_sdp_starts : OneAnswer sdpSdpStarts.Learnt
sdp_sdp_starts κs a z z' e e' p q = same p q

pub sdp_sdp_area_size : OneAnswer sdpSdpAreaSize.Learnt
sdp_sdp_area_size κs a z z' e e' p q = same p q
