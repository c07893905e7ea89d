use Rattle.std.proofs.Common.{◌≡◌, ◌≤◌, ◌+◌, ◌*◌, ◌++◌, length, take}
use Rattle.std.specs.Prelude.{codes}
use Rattle.std.specs.List.{flat_map}
use Rattle.lapi_base.specs.declared.span.Span.{Span}
use Rattle.lapi_base.specs.Output.PacketText.{span_word}
use Rattle.lapi_report.proofs.head.add_others.Given as goal

abbrev pub invariant-loop-span : goal.invariant-loop-span
invariant-loop-span l = record {
  text : l.line ≡ l.fn.line ++ flat_map (λ (span : Span). codes "," ++ span_word span) (take l.span-index l.spans);
  room : length l.line ≤ length l.fn.line + 42 * l.span-index;
}
