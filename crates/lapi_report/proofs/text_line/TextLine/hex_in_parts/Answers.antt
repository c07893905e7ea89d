use Rattle.std.proofs.Common.{sym}
use Rattle.lapi_report.proofs.Digits.{digits_parted}
use Rattle.lapi_report.proofs.text_line.TextLine.hex_in_parts.Goals as goal

pub returns-else-bytes-le512-clause-text : goal.returns-else-bytes-le512-clause-text
returns-else-bytes-le512-clause-text c =
    rw (
      c.hex-else-bytes-le512-2.ensures.text,
      c.hex-else-bytes-le512.ensures.text,
      c.split_at.ensures.front,
      c.split_at.ensures.back,
    ) (sym (digits_parted c.args.self.now 512 c.args.bytes.now))
