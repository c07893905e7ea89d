-- How the record of a world grows with the lines that it takes.
use Rattle.std.proofs.Common.{◌≡◌, ℕ, zero, suc, ◌<◌, ◌≤◌, take, arith, List, [], ◌∷◌, ◌++◌, Option, Some, None, refl, sym, ap, ◌∙◌}
use Rattle.std.specs.Prelude.{slice_get, option_map, map, length}
use Rattle.std.specs.List.{cons_option, filter_map, AllByRecursion}
use Rattle.std.proofs.lemmas.List.{map-append}
use Rattle.std.proofs.lemmas.List.Elements.{filter_map-append}
use Rattle.lapi_base.specs.declared.script.Script.{Script}
use Rattle.lapi_base.specs.declared.rule.Rules.{Rules}
use Rattle.lapi_base.specs.declared.schedule.Act.{Act}
use Rattle.lapi_base.specs.declared.schedule.Line.{Line}
use Rattle.lapi_base.specs.Packet.Spelling.{refusal, spells_packet}
use Rattle.lapi_base.specs.Packet.PacketBytes.{packet_size}
use Rattle.lapi_base.specs.Record.Below.{below}
use Rattle.lapi_base.specs.Record.Operations.{numbers_below}
use Rattle.lapi_base.specs.Record.Wires.{Run, start}
use Rattle.lapi_base.specs.Record.Acts.{perform, after, run_of}
use Rattle.lapi_base.specs.Record.Valid.{ValidAct, ValidLine}
use Rattle.lapi_base.specs.Record.WorldView.{act_at, acts_of, record_of, performed}
use Rattle.lapi_base.specs.Laws.LinesTaken.{BeginsEmpty, TakesOneMore, TakesAll, TakesValid, StartIsRecord, RecordsGoOn, TakenIsRecord}
use Rattle.lapi_base.proofs.ListLaws.{all-append, all-get}

acts-more : (schedule : List Line) (taken : List ℕ) (n : ℕ) (act : Act) → act_at schedule n ≡ Some act → acts_of schedule (taken ++ n ∷ []) ≡ acts_of schedule taken ++ act ∷ []
unfolding acts_of
acts-more schedule taken n act h = filter_map-append (act_at schedule) taken (n ∷ []) ∙ ap (λ xs. filter_map (act_at schedule) taken ++ xs) (last h)
  where
    last : act_at schedule n ≡ Some act → filter_map (act_at schedule) (n ∷ []) ≡ act ∷ []
    last e = rw e refl

module _ (script : Script) (rules : Rules) where
  after-more : (acts : List Act) (act : Act) (r : Run) → after script rules packet_size refusal r (acts ++ act ∷ []) ≡ perform script rules packet_size refusal (after script rules packet_size refusal r acts) act
  unfolding after
  after-more [] act r = refl
  after-more (x ∷ xs) act r = after-more xs act _

pub record-first : BeginsEmpty
unfolding record_of run_of acts_of after
record-first script rules schedule = refl

pub record-more : TakesOneMore
unfolding record_of run_of performed
record-more script rules schedule taken n act h = ap (λ acts. after script rules packet_size refusal start acts) (acts-more schedule taken n act h) ∙ after-more script rules (acts_of schedule taken) act start

-- every act of a valid schedule is valid
line-valid : (script : Script) (schedule : List Line) (n : ℕ) (o : Option Line) (acts : List Act) → slice_get schedule n ≡ o → AllByRecursion (ValidLine script spells_packet) schedule → AllByRecursion (ValidAct script spells_packet) acts → AllByRecursion (ValidAct script spells_packet) (cons_option (option_map (λ (l : Line). l.act) o) acts)
line-valid script schedule n None acts at v rest = rest
line-valid script schedule n (Some l) acts at v rest = ((all-get (ValidLine script spells_packet) schedule n l v at).1, rest)

pub acts-valid : TakesValid
unfolding acts_of
acts-valid script schedule [] v = tt
acts-valid script schedule (n ∷ ns) v = line-valid script schedule n (slice_get schedule n) (filter_map (act_at schedule) ns) refl v.lines (acts-valid script schedule ns v)

take-next : {X : Type 0} (xs : List X) (n : ℕ) → n < length xs → (x : X) × (slice_get xs n ≡ Some x) × (take (suc n) xs ≡ take n xs ++ x ∷ [])
take-next [] n l = absurd (omega arith)
take-next (x ∷ xs) zero l = (x, refl, refl)
take-next (x ∷ xs) (suc n) l = let r = take-next xs n (let q : n < length xs = omega arith in q) in (r.0, r.1, ap (λ ys. x ∷ ys) r.2)

acts-below : (schedule : List Line) (n : ℕ) → n ≤ length schedule → acts_of schedule (numbers_below n) ≡ map (λ (l : Line). l.act) (take n schedule)
unfolding numbers_below below acts_of
acts-below schedule zero l = refl
acts-below schedule (suc n) l =
    let r = take-next schedule n (let q : n < length schedule = omega arith in q) in
    acts-more schedule (numbers_below n) n r.0.act (ap (option_map (λ (l : Line). l.act)) r.1)
    ∙ ap (λ xs. xs ++ r.0.act ∷ []) (acts-below schedule n (let q : n ≤ length schedule = omega arith in q))
    ∙ sym (ap (map (λ (l : Line). l.act)) r.2 ∙ map-append (λ (l : Line). l.act) (take n schedule) (r.0 ∷ []))

take-all : {X : Type 0} (xs : List X) → take (length xs) xs ≡ xs
take-all [] = refl
take-all (x ∷ xs) = ap (λ ys. x ∷ ys) (take-all xs)

-- the record of all lines, taken in order
pub record-whole : TakesAll
record-whole script rules schedule =
    ap (record_of script rules) (acts-below schedule (length schedule) (omega arith) ∙ ap (map (λ (l : Line). l.act)) (take-all schedule))

-- records of valid acts
pub start-record : StartIsRecord
unfolding record_of run_of after
start-record script rules = ([], tt, refl)

pub more-record : RecordsGoOn
unfolding record_of run_of performed
more-record script rules r act is v =
    (is.0 ++ act ∷ [], all-append (ValidAct script spells_packet) is.0 (act ∷ []) is.1 (v, tt), ap (λ q. perform script rules packet_size refusal q act) is.2 ∙ sym (after-more script rules is.0 act start))

pub taken-record : TakenIsRecord
taken-record script rules schedule taken v = (acts_of schedule taken, acts-valid script schedule taken v, refl)
