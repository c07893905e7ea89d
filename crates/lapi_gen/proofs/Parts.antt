-- The links of a batch, and its eight parts, one behind another.
use Rattle.std.proofs.Common.{◌≡◌, ℕ, List, [], ◌∷◌, ◌++◌, ap, ◌∙◌, append_assoc}
use Rattle.std.specs.List.{flat_map}
use Rattle.std.proofs.lemmas.List.{append-nil}
use Rattle.std.proofs.lemmas.List.Folds.{flat_map-map}
use Rattle.lapi_base.specs.declared.schedule.Line.{Line}
use Rattle.lapi_base.specs.Record.Below.{below}
use Rattle.lapi_base.specs.Record.Operations.{numbers_below}
use Rattle.lapi_gen.specs.declared.form.TheConstants.{TASKS}
use Rattle.lapi_gen.specs.declared.batch.Batch.{Batch}
use Rattle.lapi_gen.specs.declared.link.Link.{Link}
use Rattle.lapi_gen.specs.declared.part.Part.{Part}
use Rattle.lapi_gen.specs.declared.part.Part.TheVariants.{Steps, Polls, Requests, Acknowledgements, Again, Jobs, Answers, Returns}
use Rattle.lapi_gen.specs.Batches.{batch_of}
use Rattle.lapi_gen.specs.Schedules.{link_of, links_of, link_lines, part_lines, batch_lines}

joined : {A : Type 0} (s a b c d e f g h : List A) → (((((((s ++ a) ++ b) ++ c) ++ d) ++ e) ++ f) ++ g) ++ h ≡ s ++ (a ++ (b ++ (c ++ (d ++ (e ++ (f ++ (g ++ (h ++ []))))))))
joined s a b c d e f g h = simp (append_assoc, append-nil)

pub links_are : (n b : ℕ) (l0 l1 l2 l3 l4 : Link) → l0 ≡ link_of n b 0 → l1 ≡ link_of n b 1 → l2 ≡ link_of n b 2 → l3 ≡ link_of n b 3 → l4 ≡ link_of n b 4 → l0 ∷ l1 ∷ l2 ∷ l3 ∷ l4 ∷ [] ≡ links_of n b
unfolding numbers_below below
links_are n b l0 l1 l2 l3 l4 e0 e1 e2 e3 e4 = cc

-- a part over the links of a batch
pub part_is : (n b : ℕ) (drawn : Batch) (links : List Link) (part : Part) → drawn ≡ batch_of n b → links ≡ links_of n b → flat_map (λ link. link_lines drawn link part) links ≡ part_lines n b part
part_is n b drawn links part e h =
    ap (λ (x : Batch). flat_map (λ link. link_lines x link part) links) e
    ∙ ap (flat_map (λ link. link_lines (batch_of n b) link part)) h
    ∙ flat_map-map (λ link. link_lines (batch_of n b) link part) (link_of n b) (numbers_below TASKS)

pub all_parts : (n b : ℕ) (s0 s1 s2 s3 s4 s5 s6 s7 s8 : List Line)
    → s1 ≡ s0 ++ part_lines n b Steps → s2 ≡ s1 ++ part_lines n b Polls → s3 ≡ s2 ++ part_lines n b Requests → s4 ≡ s3 ++ part_lines n b Acknowledgements
    → s5 ≡ s4 ++ part_lines n b Again → s6 ≡ s5 ++ part_lines n b Jobs → s7 ≡ s6 ++ part_lines n b Answers → s8 ≡ s7 ++ part_lines n b Returns
    → s8 ≡ s0 ++ batch_lines n b
unfolding batch_lines
all_parts n b s0 s1 s2 s3 s4 s5 s6 s7 s8 e1 e2 e3 e4 e5 e6 e7 e8 =
    let add : Part → List Line → List Line = λ p xs. xs ++ part_lines n b p in
    e8
    ∙ ap (add Returns) (e7 ∙ ap (add Answers) (e6 ∙ ap (add Jobs) (e5 ∙ ap (add Again) (e4 ∙ ap (add Acknowledgements) (e3 ∙ ap (add Requests) (e2 ∙ ap (add Polls) e1))))))
    ∙ joined s0 (part_lines n b Steps) (part_lines n b Polls) (part_lines n b Requests) (part_lines n b Acknowledgements) (part_lines n b Again) (part_lines n b Jobs) (part_lines n b Answers) (part_lines n b Returns)
