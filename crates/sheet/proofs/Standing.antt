-- What one call more makes of what stands in the buffer, and of a list of calls.
use Rattle.std.proofs.Common.{◌≡◌, ℕ, ◌+◌, Bool, true, false, cond, List, [], ◌∷◌, ◌++◌, drop, set, take, Some, None, Option, Ok, Err, Result, sym, refl, ap, ◌∙◌, subst, arith}
use Rattle.std.proofs.lemmas.List.{append_assoc, append-nil, drop-drop, drop-set-lt}
use Rattle.sheet_format.specs.declared.writing.WriteFault.{WriteFault}
use Rattle.sheet_format.specs.declared.writing.WriteFault.TheVariants.{Closed}
use Rattle.sheet_format.specs.Beginnings.{Begun, nothing_begun}
use Rattle.sheet_format.specs.Writing.{Entry, heads, has_variable, has_constraint, has_move, ends_here, WriterState, closed, PutsEntry, Abandons}
use Rattle.sheet_format.specs.Written.{begun_with, Written, Whole, Grown, Grows}
use Rattle.sheet_law.proofs.Growing.{end_closes}
use Rattle.sheet.specs.declared.calls.Call.{Call}
use Rattle.sheet.specs.Calls.{asked, Makes, Runs, Placed, one_put, all_put, begun_from, begun_by, is_the_end, end_place, Stands, unended, whole}

begun_more : (b : Begun) (es : List Placed) (e : Placed) → begun_from b (es ++ (e ∷ [])) ≡ begun_with (begun_from b es) e.entry
begun_more b [] e = refl
begun_more b (d ∷ es) e = begun_more (begun_with b d.entry) es e

no_place : (n : ℕ) → ◌≡◌ {A = Option ℕ} (Some n) None → ⊥
no_place n e = let z : ◌≡◌ {A = ℕ} 0 1 = cc in omega arith

-- where no end is among them, it is the last or none
first_none : (t : Bool) (n : ℕ) (r s u : Option ℕ) → (r ≡ None → s ≡ u) → cond t (Some n) r ≡ None → cond t (Some n) s ≡ u
first_none true n r s u h e = absurd (no_place n e)
first_none false n r s u h e = h e

end_more : (es : List Placed) (e : Placed) → end_place es ≡ None → end_place (es ++ (e ∷ [])) ≡ end_place (e ∷ [])
end_more [] e none = refl
end_more (d ∷ es) e none = first_none (is_the_end d.entry) d.place (end_place es) (end_place (es ++ (e ∷ []))) (end_place (e ∷ [])) (end_more es e) none

never : (r : Result WriterState WriteFault) (q : WriterState) (t : Bool) → t ≡ false → cond t r (Err Closed) ≡ Ok q → ⊥
never r q false e f = let z : ◌≡◌ {A = ℕ} 0 1 = cc in omega arith
never r q true e f = let z : ◌≡◌ {A = ℕ} 0 1 = cc in omega arith

-- an entry more that is not the end
one_more : (es : List Placed) (e : Placed) (q : WriterState) (ys : List ℕ) → end_place (e ∷ []) ≡ None → end_place es ≡ None → Written (begun_with (begun_by es) e.entry) q ys → Stands (es ++ (e ∷ [])) q ys
one_more es e q ys last none w = unended (end_more es e none ∙ last) (subst (λ b. Written b q ys) (sym (begun_more nothing_begun es e)) w)

accepted : (es : List Placed) (e : Entry) (p : WriterState) (xs : List ℕ) (q : WriterState) (ys : List ℕ) (place : ℕ) → PutsEntry p xs e q ys (Ok place) → end_place es ≡ None
    → Grown (begun_by es) e q ys place → Stands (es ++ one_put (Some e) (Ok place)) q ys
accepted es (heads n) p xs q ys place puts none w = one_more es _ q ys refl none w
accepted es (has_variable v) p xs q ys place puts none w = one_more es _ q ys refl none w
accepted es (has_constraint c) p xs q ys place puts none w = one_more es _ q ys refl none w
accepted es (has_move m) p xs q ys place puts none w = one_more es _ q ys refl none w
accepted es ends_here p xs q ys place puts none w =
    let last : Placed = record { entry = ends_here; place = place } in
    whole place (end_more es last none) (end_closes p xs q ys place puts) (subst (λ b. Whole b place ys) (sym (begun_more nothing_begun es last)) w)

same_stands : (es : List Placed) (p : WriterState) (xs : List ℕ) (q : WriterState) (ys : List ℕ) → q ≡ p → ys ≡ xs → Stands es p xs → Stands (es ++ []) q ys
same_stands es p xs q ys e f s =
    subst (λ ds. Stands ds q ys) (sym (append-nil es)) (subst (λ z. Stands es z ys) (sym e) (subst (λ zs. Stands es p zs) (sym f) s))

pub stands_more : (e : Entry) (p : WriterState) (xs : List ℕ) (q : WriterState) (ys : List ℕ) (r : Result ℕ WriteFault) → PutsEntry p xs e q ys r → ((b : Begun) → Written b p xs → Grows b e q ys r)
    → (es : List Placed) → Stands es p xs → Stands (es ++ one_put (Some e) r) q ys
stands_more e p xs q ys (Ok place) puts grows es (unended none w) = accepted es e p xs q ys place puts none (grows (begun_by es) w)
stands_more e p xs q ys (Ok place) puts grows es (whole place_was last shut w) = absurd (never _ q p.is_open shut puts.2.0)
stands_more e p xs q ys (Err fault) puts grows es s = same_stands es p xs q ys puts.2.1 puts.2.2 s

closed_stands : (es : List Placed) (p : WriterState) (xs : List ℕ) → Stands es p xs → Stands es (closed p) xs
closed_stands es p xs (unended none w) = unended none (record { keeps = w.keeps; tallied = w.tallied; reached = w.reached; bytes = w.bytes })
closed_stands es p xs (whole place last shut w) = whole place last refl w

pub stands_abandoned : (p : WriterState) (xs : List ℕ) (q : WriterState) (ys : List ℕ) (r : Result ℕ WriteFault) → Abandons p q r → ys ≡ xs → (es : List Placed) → Stands es p xs → Stands (es ++ one_put None r) q ys
stands_abandoned p xs q ys (Ok place) a same es s = same_stands es (closed p) xs q ys a.1 same (closed_stands es p xs s)
stands_abandoned p xs q ys (Err fault) a same es s = same_stands es p xs q ys a.1 same s

-- a list of calls with one call more
runs_more : (p : WriterState) (xs : List ℕ) (cs : List Call) (rs : List (Result ℕ WriteFault)) (m : WriterState) (zs : List ℕ) (c : Call) (r : Result ℕ WriteFault) (q : WriterState) (ys : List ℕ)
    → Runs p xs cs rs m zs → Makes m zs (asked c) q ys r → (Runs p xs (cs ++ (c ∷ [])) (rs ++ (r ∷ [])) q ys) × (all_put (cs ++ (c ∷ [])) (rs ++ (r ∷ [])) ≡ all_put cs rs ++ one_put (asked c) r)
runs_more p xs [] [] m zs c r q ys s makes =
    ((q, ys, subst (λ z. Makes z xs (asked c) q ys r) s.0 (subst (λ ws. Makes m ws (asked c) q ys r) s.1 makes), (refl, refl)), append-nil (one_put (asked c) r))
runs_more p xs [] (t ∷ rs) m zs c r q ys s makes = absurd s
runs_more p xs (d ∷ cs) [] m zs c r q ys s makes = absurd s
runs_more p xs (d ∷ cs) (t ∷ rs) m zs c r q ys s makes =
    let more = runs_more s.0 s.1 cs rs m zs c r q ys s.3 makes in
    ((s.0, s.1, s.2, more.0), ap (λ es. one_put (asked d) t ++ es) more.1 ∙ sym (append_assoc (one_put (asked d) t) (all_put cs rs) (one_put (asked c) r)))

-- the calls up to one more of a list
pub taken_more : (p : WriterState) (xs : List ℕ) (calls : List Call) (i : ℕ) (rs answers : List (Result ℕ WriteFault)) (m : WriterState) (zs : List ℕ) (c : Call) (r : Result ℕ WriteFault) (q : WriterState) (ys : List ℕ)
    → take (i + 1) calls ≡ take i calls ++ (c ∷ []) → answers ≡ rs ++ (r ∷ []) → Runs p xs (take i calls) rs m zs → Stands (all_put (take i calls) rs) m zs → Makes m zs (asked c) q ys r
    → ((es : List Placed) → Stands es m zs → Stands (es ++ one_put (asked c) r) q ys)
    → (Runs p xs (take (i + 1) calls) answers q ys) × Stands (all_put (take (i + 1) calls) answers) q ys
taken_more p xs calls i rs answers m zs c r q ys e f runs stands makes on =
    let more = runs_more p xs (take i calls) rs m zs c r q ys runs makes in
    subst (λ cs. (Runs p xs cs answers q ys) × Stands (all_put cs answers) q ys) (sym e)
    (subst (λ ts. (Runs p xs (take i calls ++ (c ∷ [])) ts q ys) × Stands (all_put (take i calls ++ (c ∷ [])) ts) q ys) (sym f)
    (more.0, subst (λ es. Stands es q ys) (sym more.1) (on (all_put (take i calls) rs) stands)))

-- an entry is written, and those after it are as they were
pub past_set : {T : Type 0} (i : ℕ) (before now : List T) (x : T) → drop i now ≡ drop i before → drop (i + 1) (set now i x) ≡ drop (i + 1) before
past_set i before now x same =
    drop-set-lt (i + 1) now i x (omega arith) ∙ sym (drop-drop 1 i now) ∙ ap (drop 1) same ∙ drop-drop 1 i before
