use Rattle.std.proofs.Common.{◌≡◌, ◌≤◌, length, Ok}
use Rattle.lapi_base.specs.Input.Reading.{read, most_input}
use Rattle.lapi_base.specs.Input.Rows.{canon}
use Rattle.lapi_script.specs.Inputs.{input_of}
use Rattle.lapi_script.proofs.Texts.{of_written}
use Rattle.lapi_script.proofs.write.write_input.Goals as goal

pub returns-clause-reads_back : goal.returns-clause-reads_back
returns-clause-reads_back c writable =
    let x = input_of c.args.script.now c.args.schedule.now in
    of_written (λ text. length text ≤ most_input → read text ≡ Ok x) (canon x) c.input.result (c.text_laws.ensures.round_trip x writable.0 writable.1) c.input.ensures
