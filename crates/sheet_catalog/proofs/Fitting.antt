-- The sizes of a valid sheet are sizes that a network takes.
use Rattle.std.proofs.Common.{◌≡◌, ℕ, ◌+◌, ◌<◌, ◌≤◌, true, ◌&&◌, ltb, List, length, get_or, Some, None, sym, ap, ◌∙◌, subst, arith}
use Rattle.std.proofs.ByRecursion.{All-get_or}
use Rattle.std.proofs.lemmas.Bool.{lt-ltb, cond-true}
use Rattle.std.proofs.lemmas.List.Elements.{All-from_get_or}
use Rattle.std.proofs.lemmas.List.Sums.{list_all-from_AllPass}
use Rattle.catalog.specs.declared.refusal.Refusal.TheVariants.{VariableCount, DomainSize}
use Rattle.catalog.specs.Causes.{sizes_fit, sizes_refusal}
use Rattle.sheet_format.specs.Value.{Sheet, no_variable, size_at, house_at, ValidVariable}
use Rattle.sheet_format.specs.Encoding.{Valid}
use Rattle.sheet_catalog.specs.Placed.{SizesOf}
use Rattle.sheet_catalog.proofs.Everyone.{Has, everyone}

both : (a b : ℕ) → 0 < a → a ≤ b → (ltb 0 a && ltb a (b + 1)) ≡ true
both a b l m = ap (λ t. t && ltb a (b + 1)) (lt-ltb 0 a l) ∙ lt-ltb a (b + 1) (omega arith)

-- each size is from 1 to 64, since each number below the count is some variable's house number
size_fits : (s : Sheet) (sizes : List ℕ) → Valid s → SizesOf s sizes → (h : ℕ) → h < length sizes → (ltb 0 (get_or sizes h 0) && ltb (get_or sizes h 0) 65) ≡ true
size_fits s sizes v z h l =
    let here : h < length s.variables = subst (λ n. h < n) z.many l in
    let valid : (e : ℕ) → e < length s.variables → ValidVariable (length s.variables) (get_or s.variables e no_variable) =
    λ e m. All-get_or (ValidVariable (length s.variables)) s.variables e no_variable m v.variables_valid in
    let r : Has (length s.variables) (house_at s.variables) h =
    everyone (length s.variables) (house_at s.variables) (λ e m. (valid e m).house_low)
    (λ i j m k q. let e : i ≡ j = v.houses_differ i j (omega arith) k q in omega arith) h here in
    let k : get_or sizes h 0 ≡ size_at s.variables r.at = ap (λ x. get_or sizes x 0) (sym r.is) ∙ z.back r.at r.low in
    ap (λ n. ltb 0 n && ltb n 65) k
    ∙ both (size_at s.variables r.at) 64 (valid r.at r.low).some_values (valid r.at r.low).few_values

pub good_sizes : (s : Sheet) (sizes : List ℕ) → Valid s → SizesOf s sizes → sizes_refusal sizes ≡ None
good_sizes s sizes v z =
    let some : 0 < length sizes = subst (λ n. 0 < n) (sym z.many) v.some_variables in
    let few : length sizes ≤ 32 = subst (λ n. n ≤ 32) (sym z.many) v.few_variables in
    let fit : sizes_fit sizes ≡ true =
    list_all-from_AllPass (λ n. ltb 0 n && ltb n 65) sizes (All-from_get_or (λ n. (ltb 0 n && ltb n 65) ≡ true) sizes 0 (size_fits s sizes v z)) in
    cond-true (ltb 0 (length sizes) && ltb (length sizes) 33) _ (Some VariableCount) (both (length sizes) 32 some few)
    ∙ cond-true (sizes_fit sizes) None (Some DomainSize) fit
