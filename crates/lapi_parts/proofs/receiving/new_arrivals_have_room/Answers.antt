use Rattle.lapi_parts.proofs.Receivable.{new-open, new-room}
use Rattle.lapi_parts.proofs.receiving.new_arrivals_have_room.Goals as goal

pub returns-clause-open : goal.returns-clause-open
returns-clause-open c = new-open

pub returns-clause-room : goal.returns-clause-room
returns-clause-room c = new-room
