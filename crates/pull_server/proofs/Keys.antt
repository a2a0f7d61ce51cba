-- The keys of a shelf, and signatures under them.
use Rattle.std.proofs.Common.{◌≡◌, inl, inr, ℕ, ◌+◌, ◌≤◌, Bool, true, false, List, [], ◌∷◌, ◌++◌, length, take, slice_get, codes, option_map, is_some, Option, Some, None, Ok, refl, sym, ◌∙◌, ap, subst, arith}
use Rattle.std.proofs.lemmas.Bool.{false≢true}
use Rattle.std.proofs.lemmas.List.{take_all, take_more}
use Rattle.std.proofs.lemmas.Option.{slice_get_cases, get_or_from_slice_get, slice_get_within}
use Rattle.http_frames.specs.declared.message.Request.{Request}
use Rattle.shared_key.specs.Signature.{first_signer}
use Rattle.pull_outside.specs.Shelf.{Contents, Finds, Gives, key_of}
use Rattle.pull_server.specs.Signed.{after_front, is_signed, most_keys, single}

none_there : (item : Option (List ℕ)) (old new : List ℕ) → Gives item false old new → item ≡ None
none_there None old new gives = refl
none_there (Some bytes) old new gives = absurd (false≢true gives.0)

abbrev typed : List ℕ → Option (List ℕ)
typed l = Some l

some_there : (item : Option (List ℕ)) (new : List ℕ) → Gives item true [] new → item ≡ Some new
some_there None new gives = absurd (false≢true (sym gives.0))
some_there (Some bytes) new gives = ap typed (sym gives.1)

told_of : (holds : Option Contents) (index : ℕ) (there : Bool) (new : List ℕ) (contents : Contents) → holds ≡ Some contents
    → Finds (option_map (key_of index) holds) (Ok there) [] new → Gives (slice_get contents.keys index) there [] new
told_of holds index there new contents told finds = subst (λ (o : Option Contents). Finds (option_map (key_of index) o) (Ok there) [] new) told finds

-- no key is there at this place
pub keys_end : (holds : Option Contents) (index most : ℕ) (new : List ℕ) (contents : Contents) → holds ≡ Some contents
    → Finds (option_map (key_of index) holds) (Ok false) [] new → index ≤ most → take index contents.keys ≡ take most contents.keys
keys_end holds index most new contents told finds le =
    let none = none_there (slice_get contents.keys index) [] new (told_of holds index false new contents told finds) in
    let short : length contents.keys ≤ index = past_end contents.keys index none in
    take_all index contents.keys short ∙ sym (take_all most contents.keys (omega (arith, short, le)))
  where
    past_end : (keys : List (List ℕ)) (i : ℕ) → slice_get keys i ≡ None → length keys ≤ i
    past_end keys i none = elim (slice_get_cases keys i).1 [
      | inl inside ↦ absurd (cc (none, inside.2))
      | inr outside ↦ outside.0
    ]

-- one key more
pub keys_push : (holds : Option Contents) (index : ℕ) (keys : List (List ℕ)) (new : List ℕ) (contents : Contents) → holds ≡ Some contents
    → Finds (option_map (key_of index) holds) (Ok true) [] new → keys ≡ take index contents.keys → keys ++ new ∷ [] ≡ take (index + 1) contents.keys
keys_push holds index keys new contents told finds so_far =
    let there = some_there (slice_get contents.keys index) new (told_of holds index true new contents told finds) in
    ap (λ (l : List (List ℕ)). l ++ new ∷ []) so_far ∙ ap (λ (k : List ℕ). take index contents.keys ++ k ∷ []) (sym (get_or_from_slice_get contents.keys index new [] there))
    ∙ sym (take_more contents.keys index [] (slice_get_within contents.keys index new there))

-- ---- signatures

module _ (keys : List (List ℕ)) (request : Request) where
  pub undated : single (codes "x-ms-date") request.headers ≡ None → is_signed keys request ≡ false
  unfolding is_signed
  undated is = rw is refl

  pub unauthorized : (date : List ℕ) → single (codes "x-ms-date") request.headers ≡ Some date → single (codes "Authorization") request.headers ≡ None → is_signed keys request ≡ false
  unfolding is_signed
  unauthorized date dated is = rw (dated, is) refl

  pub unshared : (date value : List ℕ) → single (codes "x-ms-date") request.headers ≡ Some date → single (codes "Authorization") request.headers ≡ Some value
      → after_front (codes "Shared ") value ≡ None → is_signed keys request ≡ false
  unfolding is_signed
  unshared date value dated authorized is = rw (dated, authorized, is) refl

  pub signed_by : (date value signature : List ℕ) → single (codes "x-ms-date") request.headers ≡ Some date → single (codes "Authorization") request.headers ≡ Some value
      → after_front (codes "Shared ") value ≡ Some signature → is_signed keys request ≡ is_some (first_signer (take most_keys keys) request.body date signature)
  unfolding is_signed
  signed_by date value signature dated authorized is = rw (dated, authorized, is) refl
