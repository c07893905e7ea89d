-- Where memory ran out before anything was read or written, that is the answer to each command.
use Rattle.std.proofs.Common.{◌≡◌, ℕ, List, Option, Some, None, refl, inl, inr}
use Rattle.lapi_base.specs.declared.command.Command.{Command}
use Rattle.lapi_base.specs.declared.command.Command.TheVariants as commands
use Rattle.lapi_base.specs.declared.rule.Rules.{Rules}
use Rattle.lapi_base.specs.declared.status.Status.TheVariants as status
use Rattle.lapi_base.specs.Output.CommandAnswers.{Answer}
use Rattle.lapi_tool.specs.Answered.{IsAnswered}
use Rattle.lapi_tool.specs.Outcomes.{CommandGives}
use Rattle.lapi_tool.proofs.Unwritten.{nothing_written}

cut-short : (answer : Answer) (held : Option (List ℕ)) → CommandGives answer held held status.Memory
cut-short answer held = inr (tt, nothing_written held answer.text)

pub out-of-memory : (rules : Rules) (command : Option Command) (left held : Option (List ℕ)) → IsAnswered rules command left left held held status.Memory
out-of-memory rules None left held = (cut-short _ held, refl)
out-of-memory rules (Some (commands.Show bytes)) left held = (cut-short _ held, refl)
out-of-memory rules (Some (commands.Gen number)) left held = (cut-short _ held, refl)
out-of-memory rules (Some (commands.Sum number)) left held = (cut-short _ held, refl)
out-of-memory rules (Some commands.Check) left held = inl (tt, refl)
out-of-memory rules (Some commands.Audit) left held = inl (tt, refl)
out-of-memory rules (Some commands.Landings) left held = inl (tt, refl)
out-of-memory rules (Some commands.Array) left held = inl (tt, refl)
out-of-memory rules (Some (commands.Read view)) left held = inl (tt, refl)
