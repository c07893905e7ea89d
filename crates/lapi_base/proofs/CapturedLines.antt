-- The capture of all lines of a schedule, taken in order, is that of its acts.
use Rattle.std.proofs.Common.{◌≡◌, ℕ, zero, suc, ◌<◌, List, [], ◌∷◌, get_or, length, map, Option, Some, refl, sym, ap, ◌∙◌, arith}
use Rattle.std.specs.List.{flat_map, zip}
use Rattle.std.proofs.lemmas.List.{length-map}
use Rattle.std.proofs.lemmas.List.Folds.{flat_map-map}
use Rattle.lapi_base.specs.declared.reply.Reply.{Reply}
use Rattle.lapi_base.specs.declared.schedule.Act.{Act}
use Rattle.lapi_base.specs.declared.schedule.Line.{Line}
use Rattle.lapi_base.specs.Output.CaptureBytes.{capture, capture_of, capture_taken, frames, frames_by, frames_of}
use Rattle.lapi_base.specs.Record.Operations.{numbers_below}
use Rattle.lapi_base.specs.Record.Wires.{Run}
use Rattle.lapi_base.specs.Record.WorldView.{act_at}
use Rattle.lapi_base.proofs.UptoLaws.{is-over}

zip-mapped : {X Y Z : Type 0} (f : X → Y) (xs : List X) (zs : List Z) → zip (map f xs) zs ≡ map (λ (x : X × Z). (f x.0, x.1)) (zip xs zs)
zip-mapped f [] zs = refl
zip-mapped f (x ∷ xs) [] = refl
zip-mapped f (x ∷ xs) (z ∷ zs) = ap (λ rest. (f x, z) ∷ rest) (zip-mapped f xs zs)

abbrev act_in : Line → Act
act_in line = line.act

abbrev there : Act → Option Act
there act = Some act

act-there : (schedule : List Line) (n : ℕ) (d : Option Act) → n < length schedule → get_or (map there (map act_in schedule)) n d ≡ act_at schedule n
act-there [] n d lt = absurd (omega arith)
act-there (line ∷ schedule) zero d lt = refl
act-there (line ∷ schedule) (suc n) d lt = act-there schedule n d (omega arith)

acts-there : (schedule : List Line) → map there (map act_in schedule) ≡ map (act_at schedule) (numbers_below (length schedule))
acts-there schedule = is-over (map there (map act_in schedule)) (act_at schedule) (length schedule) (length-map (map act_in schedule) there ∙ length-map schedule act_in) (act-there schedule)

pub taken-all : (r : Run) (schedule : List Line) → capture_taken r schedule (numbers_below (length schedule)) ≡ capture r (map act_in schedule)
unfolding capture_taken capture frames
taken-all r schedule =
    let by : Option Act × Reply → List (List ℕ) = λ line. frames_by r line.0 line.1 in
    let of : Act × Reply → List (List ℕ) = λ line. frames_of r line.0 line.1 in
    let numbers = numbers_below (length schedule) in
    ap capture_of (
    sym (flat_map-map by (λ (x : ℕ × Reply). (act_at schedule x.0, x.1)) (zip numbers r.replies))
    ∙ ap (flat_map by) (sym (zip-mapped (act_at schedule) numbers r.replies))
    ∙ ap (λ acts. flat_map by (zip acts r.replies)) (sym (acts-there schedule))
    ∙ ap (flat_map by) (zip-mapped there (map act_in schedule) r.replies)
    ∙ flat_map-map by (λ (x : Act × Reply). (there x.0, x.1)) (zip (map act_in schedule) r.replies)
    )
