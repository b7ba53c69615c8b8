-- The steps of the walk over the gates.
use Rattle.std.proofs.Common.{◌≡◌, ◌≢◌, ℕ, zero, suc, ◌+◌, ◌<◌, ◌⊎◌, inl, inr, List, [], ◌∷◌, ◌++◌, Option, Some, None, length, get_or, set, refl, sym, ◌∙◌, ap, subst, arith, length-set}
use Rattle.std.specs.List.{slice_get, Contains}
use Rattle.std.proofs.lemmas.List.{get_or_past, take-append-le, take_at, length_push}
use Rattle.std.proofs.lemmas.List.Elements.{Contains-append_left, Contains-push}
use Rattle.std.proofs.lemmas.Bool.{cases_lt}
use Rattle.std.proofs.lemmas.Option.{slice_get-get_or, slice_get_within, get_or_from_slice_get, none-some, same_Some}
use Rattle.eco_gates.specs.declared.gate.NetId.{NetId}
use Rattle.eco_gates.specs.declared.gate.Term.{Term}
use Rattle.eco_gates.specs.declared.gate.Term.TheVariants.{Zero, One, Net}
use Rattle.eco_gates.specs.declared.walk.Mark.{Mark}
use Rattle.eco_gates.specs.declared.walk.Mark.TheVariants.{New, Open, Done}
use Rattle.eco_gates.specs.declared.walk.Frame.{Frame}
use Rattle.eco_gates.specs.declared.walk.Walk.{Walk}
use Rattle.eco_gates.specs.declared.walk.Wait.{Wait}
use Rattle.eco_gates.specs.declared.walk.Step.{Step}
use Rattle.eco_gates.specs.declared.walk.Step.TheVariants.{Moved, Finished, Met}
use Rattle.eco_gates.specs.Step.{IsWalkState, Advances, WaitsForNone, WaitsAt, HasLeft, HasEntered}
use Rattle.eco_gates.specs.GateValue.{GateValue}
use Rattle.eco_gates.specs.Gates.{ReadsOut}
use Rattle.eco_gates.specs.Walk.{AreDrivers, unless_done, unfinished_driver, unfinished_of, AreReady, IsWalk, IsLater, IsMet, new_count}
use Rattle.eco_lists.proofs.Places.{place_of, Contains_at, slice_get-set_same, slice_get-set_other, slice_get-append_left, slice_get-push_last, push_cases, set_cases, slice_get_from_get_or, pair_at, pairs_push, pairs_front}

-- a gate that nothing need wait for is done
done_mark : (m : Mark) (d : ℕ) → unless_done m d ≡ None → m ≡ Done
done_mark New d e = absurd (none-some d (sym e))
done_mark Open d e = absurd (none-some d (sym e))
done_mark Done d e = refl

-- a gate that something waits for is not
undone_mark : (m : Mark) (d e : ℕ) → unless_done m d ≡ Some e → (d ≡ e) × ((m ≡ New) ⊎ (m ≡ Open))
undone_mark New d e h = (same_Some d e h, inl refl)
undone_mark Open d e h = (same_Some d e h, inr refl)
undone_mark Done d e h = absurd (none-some e h)

undone_driver : (marks : List Mark) (driver : Option ℕ) (d : ℕ) → unfinished_driver marks driver ≡ Some d → (driver ≡ Some d) × ((slice_get marks d ≡ Some New) ⊎ (slice_get marks d ≡ Some Open))
undone_driver marks None d h = absurd (none-some d h)
undone_driver marks (Some e) d h =
    let mark = undone_mark (get_or marks e Done) e d h in
    let here = subst (λ (n : ℕ). (get_or marks n Done ≡ New) ⊎ (get_or marks n Done ≡ Open)) mark.0 mark.1 in (
      ap Some mark.0,
      elim here [
        | inl new ↦ inl (slice_get_from_get_or marks d Done New new (λ x. cc))
        | inr open' ↦ inr (slice_get_from_get_or marks d Done Open open' (λ x. cc))
      ],
    )

-- what a term that waits for a gate reads
record Waits (gates : List GateValue) (marks : List Mark) (term : Term) (d : ℕ) : Type 0 where
  driver : GateValue
  driver_at : slice_get gates d ≡ Some driver
  reads : term ≡ Net driver.out
  mark : (slice_get marks d ≡ Some New) ⊎ (slice_get marks d ≡ Some Open)

waits_for : (nets : ℕ) (gates : List GateValue) (drivers : List (Option ℕ)) (marks : List Mark) (term : Term) (d : ℕ) → AreDrivers nets gates drivers → unfinished_of drivers marks term ≡ Some d → Waits gates marks term d
waits_for nets gates drivers marks Zero d are h = absurd (none-some d h)
waits_for nets gates drivers marks One d are h = absurd (none-some d h)
waits_for nets gates drivers marks (Net net) d are h =
    let undone = undone_driver marks (get_or drivers net.0 None) d h in
    let driver = are.sound net.0 d (slice_get_from_get_or drivers net.0 None (Some d) undone.0 (none-some d)) in
    let n : net ≡ driver.0.out = ap (λ (n : ℕ). let r : NetId = record { 0 = n } in r) (sym driver.2) in
    record { driver = driver.0; driver_at = driver.1; reads = ap Net n; mark = undone.1 }

-- the walk is done with the driver of a term that waits for no gate
driver_done : (nets : ℕ) (gates : List GateValue) (drivers : List (Option ℕ)) (marks : List Mark) (d : ℕ) (h : GateValue) → AreDrivers nets gates drivers → d < length marks → slice_get gates d ≡ Some h → unfinished_of drivers marks (Net h.out) ≡ None → slice_get marks d ≡ Some Done
driver_done nets gates drivers marks d h are within at ready =
    let driver = get_or_from_slice_get drivers h.out.0 (Some d) None (are.complete d h at) in
    let none = subst (λ (o : Option ℕ). unfinished_driver marks o ≡ None) driver ready in
    slice_get-get_or marks d Done within ∙ ap Some (done_mark (get_or marks d Done) d none)

-- gates that are done stay so
abbrev KeepsDone : List Mark → List Mark → Type 0
KeepsDone old new = (length new ≡ length old) × ((i : ℕ) → slice_get old i ≡ Some Done → slice_get new i ≡ Some Done)

done_later : (old new : List Mark) (d : ℕ) → KeepsDone old new → get_or old d Done ≡ Done → get_or new d Done ≡ Done
done_later old new d keeps e =
    elim (cases_lt d (length old)) [
      | inl lt ↦ get_or_from_slice_get new d Done Done (keeps.1 d (slice_get-get_or old d Done lt ∙ ap Some e))
      | inr le ↦ get_or_past new d Done (omega (arith, keeps.0, le))
    ]

driver_later : (old new : List Mark) (driver : Option ℕ) → KeepsDone old new → unfinished_driver old driver ≡ None → unfinished_driver new driver ≡ None
driver_later old new None keeps e = refl
driver_later old new (Some d) keeps e =
    ap (λ (m : Mark). unless_done m d) (done_later old new d keeps (done_mark (get_or old d Done) d e))

unfinished_later : (drivers : List (Option ℕ)) (old new : List Mark) (term : Term) → KeepsDone old new → unfinished_of drivers old term ≡ None → unfinished_of drivers new term ≡ None
unfinished_later drivers old new Zero keeps e = refl
unfinished_later drivers old new One keeps e = refl
unfinished_later drivers old new (Net net) keeps e = driver_later old new (get_or drivers net.0 None) keeps e

ready_later : (drivers : List (Option ℕ)) (old new : List Mark) (terms : List Term) (from to : ℕ) → KeepsDone old new → AreReady drivers old terms from to → AreReady drivers new terms from to
ready_later drivers old new terms from to keeps ready k term le lt at =
    unfinished_later drivers old new term keeps (ready k term le lt at)

-- a mark that is not Done may change
keeps_done : (marks : List Mark) (i : ℕ) (m : Mark) → (slice_get marks i ≡ Some Done → ⊥) → KeepsDone marks (set marks i m)
keeps_done marks i m undone =
    (length-set marks i m, λ j e. slice_get-set_other marks i j m (λ same. undone (subst (λ (n : ℕ). slice_get marks n ≡ Some Done) same e)) ∙ e)

-- a new gate is entered
pub enter_new : (gates : List GateValue) (drivers : List (Option ℕ)) (marks : List Mark) (order : List ℕ) (stack : List Frame) (d : Frame) → IsWalk gates drivers marks order stack → slice_get marks d.gate ≡ Some New → d.ready ≡ 0 → ((k : ℕ) (f : Frame) → k + 1 ≡ length stack → slice_get stack k ≡ Some f → ReadsOut gates d.gate f.gate) → IsWalk gates drivers (set marks d.gate Open) order (stack ++ d ∷ [])
enter_new gates drivers marks order stack d w is_new unready top =
    let keeps = keeps_done marks d.gate Open (λ e. let both : New ≡ Done = same_Some New Done (sym is_new ∙ e) in cc) in
    record {
      len = length-set marks d.gate Open ∙ w.len;
      done_in_order = λ i e. elim (set_cases marks d.gate Open i Done e) [ inl here ↦ absurd cc | inr other ↦ w.done_in_order i other.1 ];
      order_done = λ k i at. keeps.1 i (w.order_done k i at);
      once = w.once;
      behind = w.behind;
      open_on_stack = λ i e. elim (set_cases marks d.gate Open i Open e) [
        | inl here ↦ (length stack, d, slice_get-push_last stack d, sym here.0)
        | inr other ↦
            let on = w.open_on_stack i other.1 in
            (on.0, on.1, slice_get-append_left stack (d ∷ []) on.0 on.1 on.2, on.3)
      ];
      stack_open = λ k f at. elim (push_cases stack d k f at) [
        | inl old ↦ slice_get-set_other marks d.gate f.gate Open (λ same. let both : Open ≡ New = same_Some Open New (sym (w.stack_open k f old) ∙ ap (slice_get marks) same ∙ is_new) in cc) ∙ w.stack_open k f old
        | inr new ↦ ap (λ (f : Frame). slice_get (set marks d.gate Open) f.gate) new.1 ∙ slice_get-set_same marks d.gate Open (slice_get_within marks d.gate New is_new)
      ];
      apart = pairs_push (λ f h. f.gate ≢ h.gate) stack d w.apart (λ k f at same. let both : Open ≡ New = same_Some Open New (sym (w.stack_open k f at) ∙ ap (slice_get marks) same ∙ is_new) in cc);
      ready = λ k f g at gate. elim (push_cases stack d k f at) [
        | inl old ↦ ready_later drivers marks (set marks d.gate Open) g.ins 0 f.ready keeps (w.ready k f g old gate)
        | inr new ↦ λ m term le lt at_m. absurd (omega (arith, lt, ap (λ (f : Frame). f.ready) new.1, unready))
      ];
      path = λ k f h at_f at_h. elim (push_cases stack d (k + 1) h at_h) [
        | inl old ↦ elim (push_cases stack d k f at_f) [
          | inl low ↦ w.path k f h low old
          | inr last ↦ absurd (omega (arith, last.0, slice_get_within stack (k + 1) h old))
        ]
        | inr new ↦ elim (push_cases stack d k f at_f) [
          | inl low ↦ subst (λ (x : Frame). ReadsOut gates x.gate f.gate) (sym new.1) (top k f new.0 low)
          | inr last ↦ absurd (omega (arith, last.0, new.0))
        ]
      ];
    }

-- the last gate of the stack has come further
wait_last : (gates : List GateValue) (drivers : List (Option ℕ)) (marks : List Mark) (order : List ℕ) (stack : List Frame) (f h : Frame) → IsWalk gates drivers marks order (stack ++ f ∷ []) → h.gate ≡ f.gate → ((g : GateValue) → slice_get gates h.gate ≡ Some g → AreReady drivers marks g.ins 0 h.ready) → IsWalk gates drivers marks order (stack ++ h ∷ [])
wait_last gates drivers marks order stack f h w same ready =
    record {
      len = w.len;
      done_in_order = w.done_in_order;
      order_done = w.order_done;
      once = w.once;
      behind = w.behind;
      open_on_stack = λ i e.
          let on = w.open_on_stack i e in
          elim (push_cases stack f on.0 on.1 on.2) [
            | inl old ↦ (on.0, on.1, slice_get-append_left stack (h ∷ []) on.0 on.1 old, on.3)
            | inr last ↦ (length stack, h, slice_get-push_last stack h, same ∙ sym (ap (λ (x : Frame). x.gate) last.1) ∙ on.3)
          ];
      stack_open = λ k x at. elim (push_cases stack h k x at) [
        | inl old ↦ w.stack_open k x (slice_get-append_left stack (f ∷ []) k x old)
        | inr last ↦ ap (λ (x : Frame). slice_get marks x.gate) last.1 ∙ ap (slice_get marks) same ∙ w.stack_open (length stack) f (slice_get-push_last stack f)
      ];
      apart = pairs_push (λ f h. f.gate ≢ h.gate) stack h (pairs_front (λ f h. f.gate ≢ h.gate) stack (f ∷ []) w.apart) (λ k x at e.
          pair_at (λ f h. f.gate ≢ h.gate) (stack ++ f ∷ []) k (length stack) x f w.apart (slice_get_within stack k x at) (slice_get-append_left stack (f ∷ []) k x at) (slice_get-push_last stack f) (e ∙ same));
      ready = λ k x g at gate. elim (push_cases stack h k x at) [
        | inl old ↦ w.ready k x g (slice_get-append_left stack (f ∷ []) k x old) gate
        | inr last ↦ subst (λ (x : Frame). AreReady drivers marks g.ins 0 x.ready) (sym last.1) (ready g (ap (λ (x : Frame). slice_get gates x.gate) (sym last.1) ∙ gate))
      ];
      path = λ k x y at_x at_y. elim (push_cases stack h (k + 1) y at_y) [
        | inl old ↦ elim (push_cases stack h k x at_x) [
          | inl low ↦ w.path k x y (slice_get-append_left stack (f ∷ []) k x low) (slice_get-append_left stack (f ∷ []) (k + 1) y old)
          | inr last ↦ absurd (omega (arith, last.0, slice_get_within stack (k + 1) y old))
        ]
        | inr new ↦ elim (push_cases stack h k x at_x) [
          | inl low ↦
              let at_f : slice_get (stack ++ f ∷ []) (k + 1) ≡ Some f = ap (slice_get (stack ++ f ∷ [])) new.0 ∙ slice_get-push_last stack f in
              let g : y.gate ≡ f.gate = ap (λ (x : Frame). x.gate) new.1 ∙ same in
              subst (λ (n : ℕ). ReadsOut gates n x.gate) (sym g) (w.path k x f (slice_get-append_left stack (f ∷ []) k x low) at_f)
          | inr last ↦ absurd (omega (arith, last.0, new.0))
        ]
      ];
    }

-- the last gate of the stack is left
leave_last : (nets : ℕ) (gates : List GateValue) (drivers : List (Option ℕ)) (marks : List Mark) (order : List ℕ) (stack : List Frame) (f : Frame) → AreDrivers nets gates drivers → IsWalk gates drivers marks order (stack ++ f ∷ []) → ((g : GateValue) → slice_get gates f.gate ≡ Some g → AreReady drivers marks g.ins 0 (length g.ins)) → IsWalk gates drivers (set marks f.gate Done) (order ++ f.gate ∷ []) stack
leave_last nets gates drivers marks order stack f are w ready =
    let is_open : slice_get marks f.gate ≡ Some Open = w.stack_open (length stack) f (slice_get-push_last stack f) in
    let keeps = keeps_done marks f.gate Done (λ e. let both : Open ≡ Done = same_Some Open Done (sym is_open ∙ e) in cc) in
    record {
      len = length-set marks f.gate Done ∙ w.len;
      done_in_order = λ i e. elim (set_cases marks f.gate Done i Done e) [
        | inl here ↦ subst (λ (n : ℕ). Contains (order ++ f.gate ∷ []) n) (sym here.0) (Contains-push order f.gate)
        | inr other ↦ Contains-append_left order (f.gate ∷ []) i (w.done_in_order i other.1)
      ];
      order_done = λ k i at. elim (push_cases order f.gate k i at) [
        | inl old ↦ keeps.1 i (w.order_done k i old)
        | inr new ↦ ap (slice_get (set marks f.gate Done)) new.1 ∙ slice_get-set_same marks f.gate Done (slice_get_within marks f.gate Open is_open)
      ];
      once = pairs_push (λ i j. i ≢ j) order f.gate w.once (λ k i at same. let both : Done ≡ Open = same_Some Done Open (sym (w.order_done k i at) ∙ ap (slice_get marks) same ∙ is_open) in cc);
      behind = λ k i j at reads. elim (push_cases order f.gate k i at) [
        | inl old ↦ subst (λ (l : List ℕ). Contains l j) (sym (take-append-le k order (f.gate ∷ []) (let lt = slice_get_within order k i old in omega (arith, lt)))) (w.behind k i j old reads)
        | inr new ↦
            let in_reader = place_of reads.reader.ins (Net reads.driver.out) reads.reads in
            let reader_at = ap (slice_get gates) (sym new.1) ∙ reads.reader_at in
            let none = ready reads.reader reader_at in_reader.0 (Net reads.driver.out) (omega arith) (slice_get_within reads.reader.ins in_reader.0 (Net reads.driver.out) in_reader.1) in_reader.1 in
            let room = slice_get_within gates j reads.driver reads.driver_at in
            let done = driver_done nets gates drivers marks j reads.driver are (omega (arith, room, w.len)) reads.driver_at none in
            subst (λ (l : List ℕ). Contains l j) (sym (take_at order (f.gate ∷ []) k (sym new.0))) (w.done_in_order j done)
      ];
      open_on_stack = λ i e. elim (set_cases marks f.gate Done i Open e) [
        | inl here ↦ absurd cc
        | inr other ↦
            let on = w.open_on_stack i other.1 in
            elim (push_cases stack f on.0 on.1 on.2) [
              | inl old ↦ (on.0, on.1, old, on.3)
              | inr last ↦ absurd (other.0 (sym on.3 ∙ ap (λ (x : Frame). x.gate) last.1))
            ]
      ];
      stack_open = λ k x at.
          let apart = pair_at (λ f h. f.gate ≢ h.gate) (stack ++ f ∷ []) k (length stack) x f w.apart (slice_get_within stack k x at) (slice_get-append_left stack (f ∷ []) k x at) (slice_get-push_last stack f) in
          slice_get-set_other marks f.gate x.gate Done apart ∙ w.stack_open k x (slice_get-append_left stack (f ∷ []) k x at);
      apart = pairs_front (λ f h. f.gate ≢ h.gate) stack (f ∷ []) w.apart;
      ready = λ k x g at gate. ready_later drivers marks (set marks f.gate Done) g.ins 0 x.ready keeps (w.ready k x g (slice_get-append_left stack (f ∷ []) k x at) gate);
      path = λ k x y at_x at_y. w.path k x y (slice_get-append_left stack (f ∷ []) k x at_x) (slice_get-append_left stack (f ∷ []) (k + 1) y at_y);
    }

-- a gate that is entered is no longer new, and one that is left was not
new_count_enter : (marks : List Mark) (d : ℕ) → slice_get marks d ≡ Some New → new_count (set marks d Open) + 1 ≡ new_count marks
new_count_enter [] d e = absurd (none-some New e)
new_count_enter (New ∷ marks) zero e = refl
new_count_enter (Open ∷ marks) zero e = absurd (let both : Open ≡ New = same_Some Open New e in cc)
new_count_enter (Done ∷ marks) zero e = absurd (let both : Done ≡ New = same_Some Done New e in cc)
new_count_enter (New ∷ marks) (suc d) e = omega (arith, new_count_enter marks d e)
new_count_enter (Open ∷ marks) (suc d) e = new_count_enter marks d e
new_count_enter (Done ∷ marks) (suc d) e = new_count_enter marks d e

new_count_leave : (marks : List Mark) (d : ℕ) → slice_get marks d ≡ Some Open → new_count (set marks d Done) ≡ new_count marks
new_count_leave [] d e = absurd (none-some Open e)
new_count_leave (New ∷ marks) zero e = absurd (let both : New ≡ Open = same_Some New Open e in cc)
new_count_leave (Open ∷ marks) zero e = refl
new_count_leave (Done ∷ marks) zero e = absurd (let both : Done ≡ Open = same_Some Done Open e in cc)
new_count_leave (New ∷ marks) (suc d) e = omega (arith, new_count_leave marks d e)
new_count_leave (Open ∷ marks) (suc d) e = new_count_leave marks d e
new_count_leave (Done ∷ marks) (suc d) e = new_count_leave marks d e

pub later_set : (marks : List Mark) (i : ℕ) (m : Mark) → (m ≡ New → ⊥) → IsLater marks (set marks i m)
later_set marks i m old j e =
    elim (set_cases marks i m j New e) [ inl here ↦ absurd (old (sym here.1)) | inr other ↦ other.1 ]

-- both ranges of terms are ready
ready_join : (drivers : List (Option ℕ)) (marks : List Mark) (terms : List Term) (a b : ℕ) → AreReady drivers marks terms 0 a → AreReady drivers marks terms a b → AreReady drivers marks terms 0 b
ready_join drivers marks terms a b low high k term le lt at =
    elim (cases_lt k a) [ inl below ↦ low k term le below at | inr above ↦ high k term above lt at ]

-- the walk after the last gate of the stack was left
pub left_advances : (nets : ℕ) (gates : List GateValue) (drivers : List (Option ℕ)) (old mid new : Walk) (frame : Frame) (step : Step) → AreDrivers nets gates drivers → IsWalkState gates drivers old → old.stack.items ≡ mid.stack.items ++ frame ∷ [] → mid.marks.items ≡ old.marks.items → mid.order.items ≡ old.order.items → WaitsForNone gates drivers old.marks.items frame → HasLeft mid new frame.gate step → Advances gates drivers old new step
left_advances nets gates drivers old mid new frame Moved are w stack marks order none left =
    let before : IsWalk gates drivers old.marks.items old.order.items (mid.stack.items ++ frame ∷ []) = subst (λ (s : List Frame). IsWalk gates drivers old.marks.items old.order.items s) stack w in
    let after = leave_last nets gates drivers old.marks.items old.order.items mid.stack.items frame are before (λ g at.
    ready_join drivers old.marks.items g.ins frame.ready (length g.ins) (before.ready (length mid.stack.items) frame g (slice_get-push_last mid.stack.items frame) at) (none g at)) in
    let is_open = before.stack_open (length mid.stack.items) frame (slice_get-push_last mid.stack.items frame) in
    let new_marks : new.marks.items ≡ set old.marks.items frame.gate Done = left.0 ∙ ap (λ (m : List Mark). set m frame.gate Done) marks in
    let new_order : new.order.items ≡ old.order.items ++ frame.gate ∷ [] = left.1 ∙ ap (λ (o : List ℕ). o ++ frame.gate ∷ []) order in
    let count = new_count_leave old.marks.items frame.gate is_open in
    let lengths = ap length stack ∙ length_push mid.stack.items frame in
    record {
      stands = rw (new_marks, new_order, left.2) after;
      later = rw new_marks (later_set old.marks.items frame.gate Done (λ e. cc));
      stepped = rw (new_marks, left.2) (omega (arith, count, lengths));
    }
left_advances nets gates drivers old mid new frame Finished are w stack marks order none left = absurd left
left_advances nets gates drivers old mid new frame (Met first) are w stack marks order none left = absurd left

entered_cases : (gates : List GateValue) (drivers : List (Option ℕ)) (old mid new : Walk) (frame : Frame) (wait : Wait) (step : Step) → IsWalk gates drivers old.marks.items old.order.items (mid.stack.items ++ record { gate = frame.gate; ready = wait.at } ∷ []) → ReadsOut gates wait.driver frame.gate → (slice_get old.marks.items wait.driver ≡ Some New) ⊎ (slice_get old.marks.items wait.driver ≡ Some Open) → old.stack.items ≡ mid.stack.items ++ frame ∷ [] → mid.marks.items ≡ old.marks.items → mid.order.items ≡ old.order.items → HasEntered mid new frame.gate wait step → Advances gates drivers old new step
entered_cases gates drivers old mid new frame wait Moved waiting reads mark stack marks order entered =
    let back : Frame = record { gate = frame.gate; ready = wait.at } in
    let next : Frame = record { gate = wait.driver; ready = 0 } in
    let front = mid.stack.items ++ back ∷ [] in
    let is_new : slice_get old.marks.items wait.driver ≡ Some New = ap (λ (m : List Mark). slice_get m wait.driver) (sym marks) ∙ entered.0 in
    let after = enter_new gates drivers old.marks.items old.order.items front next waiting is_new refl (λ k f end at.
    elim (push_cases mid.stack.items back k f at) [
      | inl low ↦ absurd (omega (arith, slice_get_within mid.stack.items k f low, end, length_push mid.stack.items back))
      | inr last ↦ subst (λ (x : Frame). ReadsOut gates wait.driver x.gate) (sym last.1) reads
    ]) in
    let new_marks : new.marks.items ≡ set old.marks.items wait.driver Open = entered.1 ∙ ap (λ (m : List Mark). set m wait.driver Open) marks in
    let new_order : new.order.items ≡ old.order.items = entered.2 ∙ order in
    let count = new_count_enter old.marks.items wait.driver is_new in
    let old_length = ap length stack ∙ length_push mid.stack.items frame in
    let front_length = length_push mid.stack.items back in
    let new_length = length_push front next in
    record {
      stands = rw (new_marks, new_order, entered.3) after;
      later = rw new_marks (later_set old.marks.items wait.driver Open (λ e. cc));
      stepped = rw (new_marks, entered.3) (omega (arith, count, old_length, front_length, new_length));
    }
entered_cases gates drivers old mid new frame wait Finished waiting reads mark stack marks order entered = absurd entered
entered_cases gates drivers old mid new frame wait (Met first) waiting reads mark stack marks order entered =
    let back : Frame = record { gate = frame.gate; ready = wait.at } in
    let new_marks : new.marks.items ≡ old.marks.items = entered.2 ∙ marks in
    let new_order : new.order.items ≡ old.order.items = entered.3 ∙ order in
    let is_open : slice_get old.marks.items wait.driver ≡ Some Open = elim mark [
      | inl new' ↦ absurd (entered.1 (ap (λ (m : List Mark). slice_get m wait.driver) marks ∙ new'))
      | inr open' ↦ open'
    ] in
    let on = waiting.open_on_stack wait.driver is_open in
    let met : IsMet gates (mid.stack.items ++ back ∷ []) first = record {
      place = on.0;
      frame = on.1;
      at = on.2;
      gate = on.3 ∙ sym entered.0;
      last = back;
      last_at = λ k end. ap (slice_get (mid.stack.items ++ back ∷ [])) (let n = length_push mid.stack.items back in let e : k ≡ length mid.stack.items = omega (arith, end, n) in e) ∙ slice_get-push_last mid.stack.items back;
      reads = subst (λ (n : ℕ). ReadsOut gates n frame.gate) (sym entered.0) reads;
    } in
    record {
      stands = rw (new_marks, new_order, entered.4) waiting;
      later = rw new_marks (λ i e. e);
      stepped = rw entered.4 met;
    }

-- the walk after the gate that the last gate of the stack waits for was entered, or met
pub entered_advances : (nets : ℕ) (gates : List GateValue) (drivers : List (Option ℕ)) (old mid new : Walk) (frame : Frame) (wait : Wait) (step : Step) → AreDrivers nets gates drivers → IsWalkState gates drivers old → old.stack.items ≡ mid.stack.items ++ frame ∷ [] → mid.marks.items ≡ old.marks.items → mid.order.items ≡ old.order.items → WaitsAt gates drivers old.marks.items frame wait → HasEntered mid new frame.gate wait step → Advances gates drivers old new step
entered_advances nets gates drivers old mid new frame wait step are w stack marks order at entered =
    let marks_now = old.marks.items in
    let back : Frame = record { gate = frame.gate; ready = wait.at } in
    let front = mid.stack.items in
    let before : IsWalk gates drivers marks_now old.order.items (front ++ frame ∷ []) = subst (λ (s : List Frame). IsWalk gates drivers marks_now old.order.items s) stack w in
    let ready_so_far : (g : GateValue) → slice_get gates frame.gate ≡ Some g → AreReady drivers marks_now g.ins 0 wait.at = λ g g_at.
    let same : at.gate ≡ g = same_Some at.gate g (sym at.gate_at ∙ g_at) in
    ready_join drivers marks_now g.ins frame.ready wait.at (before.ready (length front) frame g (slice_get-push_last front frame) g_at) (subst (λ (g : GateValue). AreReady drivers marks_now g.ins frame.ready wait.at) same at.before) in
    let waiting = wait_last gates drivers marks_now old.order.items front frame back before refl ready_so_far in
    let waits = waits_for nets gates drivers marks_now at.term wait.driver are at.waits in
    let reads : ReadsOut gates wait.driver frame.gate = record { driver = waits.driver; reader = at.gate; driver_at = waits.driver_at; reader_at = at.gate_at; reads = Contains_at at.gate.ins wait.at (Net waits.driver.out) (at.term_at ∙ ap Some waits.reads) } in
    entered_cases gates drivers old mid new frame wait step waiting reads waits.mark stack marks order entered

-- nothing was left on the stack
pub stays : (gates : List GateValue) (drivers : List (Option ℕ)) (old new : Walk) → IsWalkState gates drivers old → old.stack.items ≡ [] → new.marks.items ≡ old.marks.items → new.order.items ≡ old.order.items → new.stack.items ≡ [] → Advances gates drivers old new Finished
stays gates drivers old new w stack marks order none =
    record {
      stands = rw (marks, order, none) (subst (λ (s : List Frame). IsWalk gates drivers old.marks.items old.order.items s) stack w);
      later = rw marks (λ i e. e);
      stepped = none;
    }

-- the last gate of the stack, and what it waits for, are gates
pub last_within : (gates : List GateValue) (drivers : List (Option ℕ)) (old : Walk) (front : List Frame) (frame : Frame) → IsWalkState gates drivers old → old.stack.items ≡ front ++ frame ∷ [] → frame.gate < length gates
last_within gates drivers old front frame w stack =
    let at : slice_get old.stack.items (length front) ≡ Some frame = ap (λ (s : List Frame). slice_get s (length front)) stack ∙ slice_get-push_last front frame in
    omega (arith, slice_get_within old.marks.items frame.gate Open (w.stack_open (length front) frame at), w.len)

pub wait_within : (nets : ℕ) (gates : List GateValue) (drivers : List (Option ℕ)) (marks : List Mark) (frame : Frame) (wait : Wait) → AreDrivers nets gates drivers → length marks ≡ length gates → WaitsAt gates drivers marks frame wait → wait.driver < length marks
wait_within nets gates drivers marks frame wait are len at =
    let waits = waits_for nets gates drivers marks at.term wait.driver are at.waits in
    omega (arith, slice_get_within gates wait.driver waits.driver waits.driver_at, len)
