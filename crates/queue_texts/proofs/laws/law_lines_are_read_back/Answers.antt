use Rattle.queue_texts.proofs.WrittenLines.{line_written}
use Rattle.queue_texts.proofs.laws.law_lines_are_read_back.Goals as goal

pub returns : goal.returns
returns c wide number l range may = (line_written wide number l range may, range, may)
