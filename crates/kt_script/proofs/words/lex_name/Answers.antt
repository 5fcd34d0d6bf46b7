use Rattle.kt_script.proofs.Common.{is_name_byte}
use Rattle.kt_script.proofs.Cuts.{word_small, passing_cut_at}
use Rattle.kt_script.proofs.words.lex_name.Goals as goal

pub range-requires-clause-end_boundary : goal.range-requires-clause-end_boundary
range-requires-clause-end_boundary c = passing_cut_at is_name_byte word_small c.args.text.now c.as_bytes.result.now c.name_length-length.result c.name_length-length.ensures.value c.as_bytes.ensures.value c.utf8.text
