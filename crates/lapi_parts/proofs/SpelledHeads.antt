-- Heads whose fields keep their rules have the spellings that are written for them.
use Rattle.std.proofs.Common.{◌≡◌, ℕ, ◌+◌, ◌%◌, ◌^◌, ◌<◌, ◌≤◌, ◌==◌, true, ◌&&◌, ◌||◌, List, [], ◌++◌, length, Option, refl, sym, subst, arith}
use Rattle.std.specs.Prelude.{nat_le}
use Rattle.std.specs.List.{AllByRecursion}
use Rattle.std.proofs.lemmas.Bool.{and_from, lt-ltb, le-leb, eq-eqb}
use Rattle.lapi_base.specs.declared.span.Span.{Span}
use Rattle.lapi_base.specs.declared.head.Head.{Head}
use Rattle.lapi_base.specs.declared.head.Head.TheVariants as heads
use Rattle.lapi_base.specs.declared.head.NoteOp.{NoteOp}
use Rattle.lapi_base.specs.declared.statement.RmwOp.{RmwOp}
use Rattle.lapi_base.specs.declared.statement.RmwOp.TheVariants.{Add, Or, Swap, Cas}
use Rattle.lapi_base.specs.Packet.Format.{Done, ◌>>=◌, bytes_form, IsSpelled}
use Rattle.lapi_base.specs.Packet.Layout.{Layout, longest}
use Rattle.lapi_base.specs.Packet.Fields.{counter_form, range_form, word_form, count_form, covering_form, within_form, matching_form}
use Rattle.lapi_base.specs.Packet.Heads.{put_form, get_go_form, get_back_form, putv_form, getv_go_form, getv_back_form, update_of, update_form, rmw_go_form, rmw_back_form, header_count_form, am_form, note_form, echo_form, round_form, gfence_form, addr_form}
use Rattle.lapi_base.specs.Packet.PacketBytes as written
use Rattle.lapi_base.specs.Record.Valid.{IsByte, in2_by}
use Rattle.lapi_base.specs.Laws.Receiving.{bytes_in}
use Rattle.lapi_base.proofs.LayoutLaws.{longest-most}
use Rattle.lapi_parts.proofs.SpelledParts.{spelled-bind, spelled-last, bytes-spelled, IsNumbered, counter-spelled, range-spelled, word-spelled, IsWithin, SameLengths, within-spelled, covering-spelled, matching-spelled}

-- counters at the end of a head
two-counters : (h : Option ℕ → Option ℕ → Head) (x y : Option ℕ) → IsNumbered x → IsNumbered y → IsSpelled (counter_form >>= λ a. counter_form >>= λ b. Done (h a b)) (h x y) (written.counter x ++ written.counter y)
two-counters h x y i j =
    spelled-bind counter_form (λ a. counter_form >>= λ b. Done (h a b)) x (h x y) (written.counter x) (written.counter y) (counter-spelled x i)
    (spelled-last counter_form (h x) y (written.counter y) (counter-spelled y j))

pub put-spelled : (count at : ℕ) (tgt cmpl : Option ℕ) → at + count ≤ 65536 → IsNumbered tgt → IsNumbered cmpl → IsSpelled (put_form count) (heads.Put at tgt cmpl) (written.head (heads.Put at tgt cmpl))
unfolding put_form
put-spelled count at tgt cmpl h i j =
    spelled-bind (range_form count) (λ at. counter_form >>= λ tgt. counter_form >>= λ cmpl. Done (heads.Put at tgt cmpl)) at (heads.Put at tgt cmpl) (written.four at) (written.counter tgt ++ written.counter cmpl)
    (range-spelled count at h) (two-counters (heads.Put at) tgt cmpl i j)

pub get_go-spelled : (layout : Layout) (asked source dest : ℕ) (tgt org : Option ℕ) → asked ≤ longest layout → source + asked ≤ 65536 → dest + asked ≤ 65536 → IsNumbered tgt → IsNumbered org → IsSpelled (get_go_form layout) (heads.GetGo asked source dest tgt org) (written.head (heads.GetGo asked source dest tgt org))
unfolding get_go_form
get_go-spelled layout asked source dest tgt org l s d i j = (
  asked,
  written.four source ++ written.four dest ++ written.counter tgt ++ written.counter org,
  omega (arith, longest-most layout),
  le-leb asked (longest layout) l,
  refl,
  spelled-bind (range_form asked) (λ source. range_form asked >>= λ dest. counter_form >>= λ tgt. counter_form >>= λ org. Done (heads.GetGo asked source dest tgt org)) source _ (written.four source) (written.four dest ++ written.counter tgt ++ written.counter org)
      (range-spelled asked source s)
      (spelled-bind (range_form asked) (λ dest. counter_form >>= λ tgt. counter_form >>= λ org. Done (heads.GetGo asked source dest tgt org)) dest _ (written.four dest) (written.counter tgt ++ written.counter org)
      (range-spelled asked dest d) (two-counters (heads.GetGo asked source dest) tgt org i j)),
)

pub get_back-spelled : (count dest : ℕ) (org : Option ℕ) → dest + count ≤ 65536 → IsNumbered org → IsSpelled (get_back_form count) (heads.GetBack dest org) (written.head (heads.GetBack dest org))
unfolding get_back_form
get_back-spelled count dest org h i =
    spelled-bind (range_form count) (λ dest. counter_form >>= λ org. Done (heads.GetBack dest org)) dest _ (written.four dest) (written.counter org) (range-spelled count dest h)
    (spelled-last counter_form (heads.GetBack dest) org (written.counter org) (counter-spelled org i))

-- how many spans follow
count-spelled : (n : ℕ) → 1 ≤ n → n ≤ 16 → IsSpelled count_form n (written.one n)
unfolding count_form
count-spelled n low high = (n, [], omega arith, and_from (nat_le 1 n) (nat_le n 16) (le-leb 1 n low) (le-leb n 16 high), refl, (refl, refl))

pub putv-spelled : (total : ℕ) (tgt cmpl : Option ℕ) (pieces : List Span) → IsNumbered tgt → IsNumbered cmpl → 1 ≤ length pieces → length pieces ≤ 16 → AllByRecursion IsWithin pieces → bytes_in pieces ≡ total → IsSpelled (putv_form total) (heads.Putv tgt cmpl pieces) (written.head (heads.Putv tgt cmpl pieces))
unfolding putv_form
putv-spelled total tgt cmpl pieces i j low high h sum =
    let count = length pieces in
    spelled-bind counter_form (λ tgt. counter_form >>= λ cmpl. count_form >>= λ count. covering_form total count >>= λ pieces. Done (heads.Putv tgt cmpl pieces)) tgt _ (written.counter tgt) (written.counter cmpl ++ (written.one count ++ written.spans pieces)) (counter-spelled tgt i)
    (spelled-bind counter_form (λ cmpl. count_form >>= λ count. covering_form total count >>= λ pieces. Done (heads.Putv tgt cmpl pieces)) cmpl _ (written.counter cmpl) (written.one count ++ written.spans pieces) (counter-spelled cmpl j)
    (spelled-bind count_form (λ count. covering_form total count >>= λ pieces. Done (heads.Putv tgt cmpl pieces)) count _ (written.one count) (written.spans pieces) (count-spelled count low high)
    (spelled-last (covering_form total count) (heads.Putv tgt cmpl) pieces (written.spans pieces) (covering-spelled total pieces h sum))))

pub getv_go-spelled : (layout : Layout) (tgt org : Option ℕ) (source dest : List Span) → IsNumbered tgt → IsNumbered org → 1 ≤ length source → length source ≤ 16 → AllByRecursion IsWithin source → AllByRecursion IsWithin dest → bytes_in source ≤ longest layout → SameLengths source dest → IsSpelled (getv_go_form layout) (heads.GetvGo tgt org source dest) (written.head (heads.GetvGo tgt org source dest))
unfolding getv_go_form
getv_go-spelled layout tgt org source dest i j low high s d l same =
    let count = length source in
    let all = written.spans source ++ written.spans dest in
    spelled-bind counter_form (λ tgt. counter_form >>= λ org. count_form >>= λ count. within_form (longest layout) count >>= λ source. matching_form source >>= λ dest. Done (heads.GetvGo tgt org source dest)) tgt _ (written.counter tgt) (written.counter org ++ (written.one count ++ all)) (counter-spelled tgt i)
    (spelled-bind counter_form (λ org. count_form >>= λ count. within_form (longest layout) count >>= λ source. matching_form source >>= λ dest. Done (heads.GetvGo tgt org source dest)) org _ (written.counter org) (written.one count ++ all) (counter-spelled org j)
    (spelled-bind count_form (λ count. within_form (longest layout) count >>= λ source. matching_form source >>= λ dest. Done (heads.GetvGo tgt org source dest)) count _ (written.one count) all (count-spelled count low high)
    (spelled-bind (within_form (longest layout) count) (λ source. matching_form source >>= λ dest. Done (heads.GetvGo tgt org source dest)) source _ (written.spans source) (written.spans dest) (within-spelled (longest layout) source s l)
    (spelled-last (matching_form source) (heads.GetvGo tgt org source) dest (written.spans dest) (matching-spelled source dest d same)))))

pub getv_back-spelled : (total : ℕ) (org : Option ℕ) (dest : List Span) → IsNumbered org → 1 ≤ length dest → length dest ≤ 16 → AllByRecursion IsWithin dest → bytes_in dest ≡ total → IsSpelled (getv_back_form total) (heads.GetvBack org dest) (written.head (heads.GetvBack org dest))
unfolding getv_back_form
getv_back-spelled total org dest i low high h sum =
    let count = length dest in
    spelled-bind counter_form (λ org. count_form >>= λ count. covering_form total count >>= λ dest. Done (heads.GetvBack org dest)) org _ (written.counter org) (written.one count ++ written.spans dest) (counter-spelled org i)
    (spelled-bind count_form (λ count. covering_form total count >>= λ dest. Done (heads.GetvBack org dest)) count _ (written.one count) (written.spans dest) (count-spelled count low high)
    (spelled-last (covering_form total count) (heads.GetvBack org) dest (written.spans dest) (covering-spelled total dest h sum)))

-- a read-modify-write: only a compare-and-swap has a second word
second-kept : (op : RmwOp) (in2 : ℕ) → in2_by op in2 → (written.update_number op == 4 || in2 == 0) ≡ true
second-kept Add in2 h = eq-eqb in2 0 h
second-kept Or in2 h = eq-eqb in2 0 h
second-kept Swap in2 h = eq-eqb in2 0 h
second-kept Cas in2 h = refl

update-number : (op : RmwOp) → (written.update_number op < 256) × ((nat_le 1 (written.update_number op) && nat_le (written.update_number op) 4) ≡ true) × (update_of (written.update_number op) ≡ op)
update-number Add = (omega arith, refl, refl)
update-number Or = (omega arith, refl, refl)
update-number Swap = (omega arith, refl, refl)
update-number Cas = (omega arith, refl, refl)

pub rmw_go-spelled : (op : RmwOp) (at in1 in2 prev : ℕ) (org : Option ℕ) → at + 4 ≤ 65536 → at % 4 ≡ 0 → in1 < 2 ^ 32 → in2 < 2 ^ 32 → in2_by op in2 → prev + 4 ≤ 65536 → prev % 4 ≡ 0 → IsNumbered org → IsSpelled rmw_go_form (heads.RmwGo op at in1 in2 prev org) (written.head (heads.RmwGo op at in1 in2 prev org))
unfolding rmw_go_form update_form
rmw_go-spelled op at in1 in2 prev org a a4 one two kept p p4 i =
    let n = written.update_number op in
    let u = update-number op in
    let bytes = written.four at ++ written.four in1 ++ written.four in2 ++ written.four prev ++ written.counter org in (
      n,
      bytes,
      u.0,
      u.1,
      refl,
      spelled-bind word_form _ at _ (written.four at) (written.four in1 ++ written.four in2 ++ written.four prev ++ written.counter org) (word-spelled at a a4) (
        in1,
        written.four in2 ++ written.four prev ++ written.counter org,
        one,
        refl,
        refl,
        (
          in2,
          written.four prev ++ written.counter org,
          two,
          second-kept op in2 kept,
          refl,
          spelled-bind word_form (λ prev. counter_form >>= λ org. Done (heads.RmwGo (update_of n) at in1 in2 prev org)) prev _ (written.four prev) (written.counter org) (word-spelled prev p p4)
              (subst (λ o. IsSpelled (counter_form >>= λ org. Done (heads.RmwGo o at in1 in2 prev org)) (heads.RmwGo op at in1 in2 prev org) (written.counter org)) (sym u.2)
              (spelled-last counter_form (heads.RmwGo op at in1 in2 prev) org (written.counter org) (counter-spelled org i))),
        ),
      ),
    )

pub rmw_back-spelled : (dest : ℕ) (org : Option ℕ) → dest + 4 ≤ 65536 → dest % 4 ≡ 0 → IsNumbered org → IsSpelled rmw_back_form (heads.RmwBack dest org) (written.head (heads.RmwBack dest org))
unfolding rmw_back_form
rmw_back-spelled dest org d d4 i =
    spelled-bind word_form (λ dest. counter_form >>= λ org. Done (heads.RmwBack dest org)) dest _ (written.four dest) (written.counter org) (word-spelled dest d d4)
    (spelled-last counter_form (heads.RmwBack dest) org (written.counter org) (counter-spelled org i))

pub am-spelled : (handler : ℕ) (tgt cmpl : Option ℕ) (header : List ℕ) → handler < 16 → IsNumbered tgt → IsNumbered cmpl → length header ≤ 64 → length header % 4 ≡ 0 → AllByRecursion IsByte header → IsSpelled am_form (heads.Am handler tgt cmpl header) (written.head (heads.Am handler tgt cmpl header))
unfolding am_form header_count_form
am-spelled handler tgt cmpl header l i j few four small =
    let count = length header in (
      handler,
      written.counter tgt ++ (written.counter cmpl ++ (written.one count ++ header)),
      omega arith,
      le-leb handler 15 (omega arith),
      refl,
      spelled-bind counter_form _ tgt _ (written.counter tgt) (written.counter cmpl ++ (written.one count ++ header)) (counter-spelled tgt i)
          (spelled-bind counter_form _ cmpl _ (written.counter cmpl) (written.one count ++ header) (counter-spelled cmpl j) (
            count,
            header,
            omega arith,
            and_from (count % 4 == 0) (nat_le count 64) (eq-eqb (count % 4) 0 four) (le-leb count 64 few),
            refl,
            spelled-last (bytes_form count) (heads.Am handler tgt cmpl) header header (bytes-spelled header small),
          )),
    )

pub note-spelled : (op : NoteOp) (cmpl : ℕ) → cmpl < 64 → IsSpelled (note_form op) (heads.Note op cmpl) (written.head (heads.Note op cmpl))
unfolding note_form
note-spelled op cmpl l = (cmpl, [], omega arith, lt-ltb cmpl 64 l, refl, (refl, refl))

pub echo-spelled : (dest : ℕ) (cmpl : Option ℕ) → dest + 4 ≤ 65536 → dest % 4 ≡ 0 → IsNumbered cmpl → IsSpelled echo_form (heads.Echo dest cmpl) (written.head (heads.Echo dest cmpl))
unfolding echo_form
echo-spelled dest cmpl d d4 i =
    spelled-bind word_form (λ dest. counter_form >>= λ cmpl. Done (heads.Echo dest cmpl)) dest _ (written.four dest) (written.counter cmpl) (word-spelled dest d d4)
    (spelled-last counter_form (heads.Echo dest) cmpl (written.counter cmpl) (counter-spelled cmpl i))

pub gfence-spelled : (round : ℕ) → round ≤ 511 → IsSpelled gfence_form (heads.Gfence round) (written.head (heads.Gfence round))
unfolding gfence_form round_form
gfence-spelled round l = (round, [], omega arith, le-leb round 511 l, refl, (refl, refl))

pub addr-spelled : (round at : ℕ) → round ≤ 511 → at ≤ 65536 → IsSpelled addr_form (heads.Addr round at) (written.head (heads.Addr round at))
unfolding addr_form round_form
addr-spelled round at l h = (round, written.four at, omega arith, le-leb round 511 l, refl, (at, [], omega arith, le-leb at 65536 h, refl, (refl, refl)))
