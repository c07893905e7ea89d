-- What a clause reads of a place, which is a seat at the table.
use Rattle.std.specs.Prelude.{◌≡◌, ℕ, List, [], Option}
use Rattle.atomic_table.specs.Seated.{TableId}
use Rattle.atomic_table.specs.declared.shared.Seat.{Seat}
use Rattle.lapi_turn.specs.declared.rule.View.{View}
use Rattle.lapi_turn.specs.declared.rule.Stage.TheVariants.{Rests}
use Rattle.lapi_turn.specs.Entries.{Entry}

module _ {X F : Type 0} where
  -- the list that was seen
  abbrev pub seen_at : Seat (Option X) (View F) → List Entry
  seen_at place = place.me.0.seen

  -- bit i is right i
  abbrev pub rights_at : Seat (Option X) (View F) → ℕ
  rights_at place = place.me.0.rights

  -- it has no ticket, and holds no slot
  abbrev pub RestsAt : Seat (Option X) (View F) → Type 0
  RestsAt place = (place.me.1 ≡ []) × (place.me.0.stage ≡ Rests)

  -- it is at this table, which has three words and one slot
  abbrev pub IsPlaceOf : TableId → Seat (Option X) (View F) → Type 0
  IsPlaceOf table place = (place.table_id ≡ table) × (table.words ≡ 3) × (table.slots ≡ 1)

  -- it is at the table where it was, with its number there
  abbrev pub StaysAt : Seat (Option X) (View F) → Seat (Option X) (View F) → Type 0
  StaysAt old new = (new.table_id ≡ old.table_id) × (new.id ≡ old.id)
