-- Lists of keys: what is in them, and in which order they come.
use Rattle.std.specs.Prelude.{Bool, true, false, cond, not, ◌&&◌, ◌||◌, List, [], ◌∷◌, ◌++◌}
use Rattle.report.specs.declared.violation.Key.{Key}
use Rattle.report.specs.Violation.{same_key}

unfoldable pub has_key : List Key → Key → Bool
has_key [] k = false
has_key (l ∷ ls) k = same_key l k || has_key ls k

-- all of the second list are in the first
unfoldable pub all_in : List Key → List Key → Bool
all_in ps [] = true
all_in ps (k ∷ ks) = has_key ps k && all_in ps ks

unfoldable pub distinct : List Key → Bool
distinct [] = true
distinct (k ∷ ks) = not (has_key ks k) && distinct ks

-- the key at the end where it is new, and so for each of a list: keys in the order in which they first come
unfoldable pub add_key : List Key → Key → List Key
add_key ks k = cond (has_key ks k) ks (ks ++ (k ∷ []))

unfoldable pub add_keys : List Key → List Key → List Key
add_keys ks [] = ks
add_keys ks (j ∷ js) = add_keys (add_key ks j) js
