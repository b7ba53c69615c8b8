-- Lists whose members go from one to another.
use Rattle.std.proofs.Common.{◌≡◌, ◌≢◌, suc, ◌+◌, List, [], ◌∷◌, ◌++◌, length, inl, inr, refl, sym, ◌∙◌, ap, subst, arith, length-append}
use Rattle.std.specs.List.{AllPairs, Contains}
use Rattle.std.proofs.lemmas.List.Elements.{Contains-append_left, Contains-append_right, Contains-append_cases}
use Rattle.eco_lists.proofs.Members.{Contains_first, Contains_later, Contains_cases, Contains_none, AllPairs-head, AllPairs-tail}
use Rattle.eco_lists.proofs.Places.{pairs_cons}
use Rattle.eco_locate.specs.Moves.{IsJoint, IsRearranged}

-- a list with another behind it
pub joint_append : {X : Type 0} (first second : List X) → IsJoint first second (first ++ second)
joint_append first second = record {
  members = λ x. (
    Contains-append_cases first second x,
    λ c. elim c [ inl here ↦ Contains-append_left first second x here | inr there ↦ Contains-append_right first second x there ],
  );
  count = length-append first second;
}

-- no more
pub joint_none : {X : Type 0} (a none : List X) → length none ≡ 0 → IsJoint a none a
joint_none a none empty = record {
  members = λ x. (λ c. inl c, λ c. elim c [ inl here ↦ here | inr there ↦ absurd (omega (arith, there.1, empty)) ]);
  count = omega (arith, empty);
}

-- more in the first of two parts, or in the second
pub joint_first : {X : Type 0} (a more b rest : List X) → IsJoint a more b → IsJoint (a ++ rest) more (b ++ rest)
joint_first a more b rest is = record {
  members = λ x. (
    λ c. elim (Contains-append_cases b rest x c) [
      | inl here ↦ elim ((is.members x).0 here) [ inl had ↦ inl (Contains-append_left a rest x had) | inr new ↦ inr new ]
      | inr there ↦ inl (Contains-append_right a rest x there)
    ],
    λ c. elim c [
      | inl had ↦ elim (Contains-append_cases a rest x had) [
        | inl here ↦ Contains-append_left b rest x ((is.members x).1 (inl here))
        | inr there ↦ Contains-append_right b rest x there
      ]
      | inr new ↦ Contains-append_left b rest x ((is.members x).1 (inr new))
    ],
  );
  count = omega (arith, is.count, length-append a rest, length-append b rest);
}

pub joint_second : {X : Type 0} (a more b rest : List X) → IsJoint a more b → IsJoint (rest ++ a) more (rest ++ b)
joint_second a more b rest is = record {
  members = λ x. (
    λ c. elim (Contains-append_cases rest b x c) [
      | inl here ↦ inl (Contains-append_left rest a x here)
      | inr there ↦ elim ((is.members x).0 there) [ inl had ↦ inl (Contains-append_right rest a x had) | inr new ↦ inr new ]
    ],
    λ c. elim c [
      | inl had ↦ elim (Contains-append_cases rest a x had) [
        | inl here ↦ Contains-append_left rest b x here
        | inr there ↦ Contains-append_right rest b x ((is.members x).1 (inl there))
      ]
      | inr new ↦ Contains-append_right rest b x ((is.members x).1 (inr new))
    ],
  );
  count = omega (arith, is.count, length-append rest a, length-append rest b);
}

-- more in two steps
pub joint_both : {X : Type 0} (a first b second c : List X) → IsJoint a first b → IsJoint b second c → IsJoint a (first ++ second) c
joint_both a first b second c one two = record {
  members = λ x. (
    λ d. elim ((two.members x).0 d) [
      | inl had ↦ elim ((one.members x).0 had) [ inl here ↦ inl here | inr new ↦ inr (Contains-append_left first second x new) ]
      | inr new ↦ inr (Contains-append_right first second x new)
    ],
    λ d. elim d [
      | inl here ↦ (two.members x).1 (inl ((one.members x).1 (inl here)))
      | inr new ↦ elim (Contains-append_cases first second x new) [
        | inl early ↦ (two.members x).1 (inl ((one.members x).1 (inr early)))
        | inr late ↦ (two.members x).1 (inr late)
      ]
    ],
  );
  count = omega (arith, one.count, two.count, length-append first second);
}

-- what leaves one list for another leaves both lists together as they are
pub moved : {X : Type 0} (rest more left had has : List X) → IsJoint rest more left → IsJoint had more has → IsRearranged (left ++ had) (rest ++ has)
moved rest more left had has from to = record {
  members = λ x. (
    λ c. elim (Contains-append_cases left had x c) [
      | inl here ↦ elim ((from.members x).0 here) [
        | inl stays ↦ Contains-append_left rest has x stays
        | inr goes ↦ Contains-append_right rest has x ((to.members x).1 (inr goes))
      ]
      | inr there ↦ Contains-append_right rest has x ((to.members x).1 (inl there))
    ],
    λ c. elim (Contains-append_cases rest has x c) [
      | inl stays ↦ Contains-append_left left had x ((from.members x).1 (inl stays))
      | inr there ↦ elim ((to.members x).0 there) [
        | inl before ↦ Contains-append_right left had x before
        | inr goes ↦ Contains-append_left left had x ((from.members x).1 (inr goes))
      ]
    ],
  );
  count = omega (arith, from.count, to.count, length-append left had, length-append rest has);
}

pub rearranged_twice : {X : Type 0} (a b c : List X) → IsRearranged a b → IsRearranged b c → IsRearranged a c
rearranged_twice a b c one two = record {
  members = λ x. (λ d. (two.members x).0 ((one.members x).0 d), λ d. (one.members x).1 ((two.members x).1 d));
  count = two.count ∙ one.count;
}

-- a member stands between what is before it and what is behind it
split_at : {X : Type 0} (xs : List X) (x : X) → Contains xs x → (front : List X) × (back : List X) × (xs ≡ front ++ x ∷ back)
split_at [] x c = absurd (Contains_none x c)
split_at (y ∷ xs) x c =
    elim (Contains_cases y x xs c) [
      | inl here ↦ ([], xs, ap (λ z. z ∷ xs) here)
      | inr later ↦ let (front, back, same) = split_at xs x later in (y ∷ front, back, ap (λ (rest : List _). y ∷ rest) same)
    ]

-- a list that has all members of a list without repeats, and is as long, has no other members and no repeats
pub as_many : {X : Type 0} (xs ys : List X) → AllPairs (λ a b. a ≢ b) xs → ((x : X) → Contains xs x → Contains ys x) → length ys ≡ length xs → AllPairs (λ a b. a ≢ b) ys × ((y : X) → Contains ys y → Contains xs y)
as_many [] [] once within same = (once, λ y c. c)
as_many [] (y ∷ ys) once within same = absurd (omega (arith, same))
as_many (x ∷ xs) ys once within same =
    let (front, back, split) = split_at ys x (within x (Contains_first x xs)) in
    let rest = front ++ back in
    let long : length ys ≡ length front + suc (length back) = ap length split ∙ length-append front (x ∷ back) in
    let fewer : length rest ≡ length xs = omega (arith, long, same, length-append front back) in
    let other : (y : _) → Contains xs y → Contains rest y = λ y c.
    elim (Contains-append_cases front (x ∷ back) y (subst (λ list. Contains list y) split (within y (Contains_later x y xs c)))) [
      | inl here ↦ Contains-append_left front back y here
      | inr from ↦ elim (Contains_cases x y back from) [
        | inl equal ↦ absurd (AllPairs-head (λ a b. a ≢ b) x xs once y c equal)
        | inr there ↦ Contains-append_right front back y there
      ]
    ] in
    let (apart, back_in) = as_many xs rest (AllPairs-tail (λ a b. a ≢ b) x xs once) other fewer in
    let new : Contains rest x → ⊥ = λ c. AllPairs-head (λ a b. a ≢ b) x xs once x (back_in x c) refl in (
      subst (AllPairs (λ a b. a ≢ b)) (sym split) (inserted front x back apart new),
      λ y c. elim (Contains-append_cases front (x ∷ back) y (subst (λ list. Contains list y) split c)) [
        | inl here ↦ Contains_later x y xs (back_in y (Contains-append_left front back y here))
        | inr from ↦ elim (Contains_cases x y back from) [
          | inl equal ↦ subst (Contains (x ∷ xs)) equal (Contains_first x xs)
          | inr there ↦ Contains_later x y xs (back_in y (Contains-append_right front back y there))
        ]
      ],
    )
  where
    inserted : {X : Type 0} (front : List X) (x : X) (back : List X) → AllPairs (λ a b. a ≢ b) (front ++ back) → (Contains (front ++ back) x → ⊥) → AllPairs (λ a b. a ≢ b) (front ++ x ∷ back)
    inserted [] x back apart new = pairs_cons (λ a b. a ≢ b) x back apart (λ y c same. new (subst (Contains back) (sym same) c))
    inserted (y ∷ front) x back apart new =
        pairs_cons (λ a b. a ≢ b) y (front ++ x ∷ back)
        (inserted front x back (AllPairs-tail (λ a b. a ≢ b) y (front ++ back) apart) (λ c. new (Contains_later y x (front ++ back) c)))
        (λ z c same. elim (Contains-append_cases front (x ∷ back) z c) [
          | inl here ↦ AllPairs-head (λ a b. a ≢ b) y (front ++ back) apart z (Contains-append_left front back z here) same
          | inr from ↦ elim (Contains_cases x z back from) [
            | inl equal ↦ new (subst (Contains (y ∷ (front ++ back))) (same ∙ sym equal) (Contains_first y (front ++ back)))
            | inr there ↦ AllPairs-head (λ a b. a ≢ b) y (front ++ back) apart z (Contains-append_right front back z there) same
          ]
        ])
