-- Alike nodes have one signature, and signatures stay where rows are added or grow.
use Rattle.std.proofs.Common.{◌≡◌, ◌≢◌, inl, inr, ℕ, ◌+◌, ◌<◌, Bool, true, false, not, List, [], ◌∷◌, ◌++◌, Some, length, map, take, refl, sym, ◌∙◌, ap, subst, arith, length-append}
use Rattle.std.specs.List.{slice_get, All}
use Rattle.std.proofs.lemmas.List.{take-append-le, take-map, length-map}
use Rattle.std.proofs.lemmas.List.Elements.{All-take, All-tail, All-weaker}
use Rattle.std.proofs.lemmas.Option.{slice_get_within}
use Rattle.eco_lists.proofs.Places.{All_at, item_at, push_cases}
use Rattle.eco_lists.specs.Bits.{bit_at}
use Rattle.eco_aig.specs.declared.edge.Edge.{Edge}
use Rattle.eco_aig.specs.declared.node.Node.{Node}
use Rattle.eco_aig.specs.Edges.{value_of}
use Rattle.eco_aig.specs.Graph.{IsGraph}
use Rattle.eco_aig.proofs.Filling.{bit_agree}
use Rattle.eco_merge.specs.declared.findings.Findings.{Findings}
use Rattle.eco_merge.specs.Alike.{IsAlike, turned, other_of}
use Rattle.eco_merge.specs.Rows.{IsRow, grown}
use Rattle.eco_merge.specs.Signatures.{with_bit, with_bits, cleared, signature_at, AreSignatures, AreSigned}
use Rattle.eco_merge.specs.Steps.{AreFindings, IsComparedWith}
use Rattle.eco_merge.proofs.Alike.{other_bit}
use Rattle.eco_merge.proofs.Staying.{bit_front}

-- one more node's signature
pub signatures_push : (rows : List (List Bool)) (signatures : List ℕ) → AreSignatures rows signatures → AreSignatures rows (signatures ++ signature_at rows (length signatures) ∷ [])
signatures_push rows signatures are k x at = elim (push_cases signatures (signature_at rows (length signatures)) k x at) [
  | inl old ↦ are k x old
  | inr new ↦ new.1 ∙ ap (signature_at rows) (sym new.0)
]

-- edges that have the same bits
same_bits : (signature : ℕ) (rows : List (List Bool)) (e f : Edge) → All (λ bits. value_of (bit_at bits) e ≡ value_of (bit_at bits) f) rows → with_bits signature rows e ≡ with_bits signature rows f
same_bits signature [] e f same = refl
same_bits signature (bits ∷ rows) e f same =
    ap (λ b. with_bits (with_bit signature b) rows e) (All_at (λ row. value_of (bit_at row) e ≡ value_of (bit_at row) f) (bits ∷ rows) 0 bits same refl) ∙ same_bits (with_bit signature (value_of (bit_at bits) f)) rows e f (All-tail (λ row. value_of (bit_at row) e ≡ value_of (bit_at row) f) bits rows same)

both_turned : (w : ℕ → Bool) (n m : ℕ) (c d same : Bool) → c ≡ turned same d → w n ≡ turned same (w m) → value_of w (record { node = n; complemented = c }) ≡ value_of w (record { node = m; complemented = d })
both_turned w n m c d same c_is n_is =
    ap (λ x. value_of w (record { node = n; complemented = x })) c_is ∙ by (w n) (w m) d same n_is
  where
    by : (x y d same : Bool) → x ≡ turned same y → value_of (λ k. x) (record { node = n; complemented = turned same d }) ≡ value_of (λ k. y) (record { node = m; complemented = d })
    by x y true true e = ap not e
    by x y false true e = e
    by x true true false e = e
    by x false true false e = e
    by x true false false e = ap not e
    by x false false false e = ap not e

-- alike nodes have one signature
signature_alike : (nodes : List Node) (rows : List (List Bool)) (n m : ℕ) (same : Bool) → IsGraph nodes → All (IsRow nodes) rows → IsAlike nodes n (other_of m) same → signature_at rows n ≡ signature_at rows m
signature_alike nodes [] n m same graph all alike = refl
signature_alike nodes (bits ∷ rows) n m same graph all alike =
    same_bits 0 (bits ∷ rows) (cleared (bits ∷ rows) n) (cleared (bits ∷ rows) m) (All-weaker (IsRow nodes) (λ row. value_of (bit_at row) (cleared (bits ∷ rows) n) ≡ value_of (bit_at row) (cleared (bits ∷ rows) m)) (λ row is. both_turned (bit_at row) n m (bit_at bits n) (bit_at bits m) same (bits_of_row bits (All_at (IsRow nodes) (bits ∷ rows) 0 bits all refl)) (bits_of_row row is)) (bits ∷ rows) all)
  where
    bits_of_row : (row : List Bool) → IsRow nodes row → bit_at row n ≡ turned same (bit_at row m)
    bits_of_row row is = alike.bits (bit_at row) is.valuation ∙ ap (turned same) (other_bit nodes (bit_at row) m graph is.valuation)

-- nodes whose signatures differ aren't alike
pub signatures_differ : (nodes : List Node) (limit : ℕ) (findings : Findings) (n m : ℕ) → IsGraph nodes → AreFindings nodes limit findings → n < length nodes → m < length nodes → slice_get findings.signatures.items n ≢ slice_get findings.signatures.items m → IsComparedWith nodes findings.apart.items n m
signatures_differ nodes limit findings n m graph are n_in m_in differ same alike =
    let count = are.signed.count_is in
    let one = item_at findings.signatures.items n (omega (arith, n_in, count)) in
    let two = item_at findings.signatures.items m (omega (arith, m_in, count)) in
    let rows = take findings.drawn findings.rows.items in
    let equal = signature_alike nodes rows n m same graph (All-take (IsRow nodes) findings.drawn findings.rows.items are.rows) alike in
    absurd (differ (one.1 ∙ ap Some (are.signed.each n one.0 one.1 ∙ equal ∙ sym (are.signed.each m two.0 two.1)) ∙ sym two.1))

-- rows behind the first ones
pub signed_more : (count : ℕ) (rows : List (List Bool)) (bits : List Bool) (first : ℕ) (signatures : List ℕ) → AreSigned count rows first signatures → AreSigned count (rows ++ bits ∷ []) first signatures
signed_more count rows bits first signatures is =
    let few = is.few in
    record {
      few = omega (arith, few, length-append rows (bits ∷ []));
      count_is = is.count_is;
      each = subst (λ list. AreSignatures list signatures) (sym (take-append-le first rows (bits ∷ []) few)) is.each;
    }

-- rows that grow keep the signatures of their nodes
cleared_grows : (rows : List (List Bool)) (count k : ℕ) (a b : Edge) → All (λ bits. length bits ≡ count) rows → k < count → cleared (map (grown a b) rows) k ≡ cleared rows k
cleared_grows [] count k a b all lt = refl
cleared_grows (bits ∷ rows) count k a b all lt =
    let long = All_at (λ row. length row ≡ count) (bits ∷ rows) 0 bits all refl in
    ap (λ c. record { node = k; complemented = c }) (sym (bit_front bits _ k (omega (arith, lt, long))))

bits_grow : (signature : ℕ) (rows : List (List Bool)) (count : ℕ) (e a b : Edge) → All (λ bits. length bits ≡ count) rows → e.node < count → with_bits signature (map (grown a b) rows) e ≡ with_bits signature rows e
bits_grow signature [] count e a b all lt = refl
bits_grow signature (bits ∷ rows) count e a b all lt =
    let long = All_at (λ row. length row ≡ count) (bits ∷ rows) 0 bits all refl in
    let stays = bit_front bits _ e.node (omega (arith, lt, long)) in
    ap (λ bit. with_bits (with_bit signature bit) (map (grown a b) rows) e) (sym (bit_agree (bit_at bits) (bit_at (grown a b bits)) e stays)) ∙ bits_grow (with_bit signature (value_of (bit_at bits) e)) rows count e a b (All-tail (λ row. length row ≡ count) bits rows all) lt

signature_grows : (rows : List (List Bool)) (count k : ℕ) (a b : Edge) → All (λ bits. length bits ≡ count) rows → k < count → signature_at (map (grown a b) rows) k ≡ signature_at rows k
signature_grows [] count k a b all lt = refl
signature_grows (bits ∷ rows) count k a b all lt =
    ap (with_bits 0 (map (grown a b) (bits ∷ rows))) (cleared_grows (bits ∷ rows) count k a b all lt) ∙ bits_grow 0 (bits ∷ rows) count (cleared (bits ∷ rows) k) a b all lt

-- the graph has one more node, whose signature was added
pub signed_grows : (old new : List Node) (a b : Edge) (rows rows' : List (List Bool)) (first first' : ℕ) (signatures signatures' : List ℕ) → length new ≡ length old + 1 → All (IsRow old) rows → rows' ≡ map (grown a b) rows → first' ≡ first → signatures' ≡ signatures ++ signature_at (take first rows') (length signatures) ∷ [] → AreSigned (length old) rows first signatures → AreSigned (length new) rows' first' signatures'
signed_grows old new a b rows rows' first first' signatures signatures' long all rows_are first_is pushed is =
    subst (λ f. AreSigned (length new) rows' f signatures') (sym first_is) (record {
      few = (let few = is.few in omega (arith, few, ap length rows_are, length-map rows (grown a b)));
      count_is = (let count = is.count_is in omega (arith, count, long, ap length pushed, length-append signatures (signature_at (take first rows') (length signatures) ∷ [])));
      each = subst (AreSignatures (take first rows')) (sym pushed) (signatures_push (take first rows') signatures older);
    })
  where
    front : take first rows' ≡ map (grown a b) (take first rows)
    front = ap (take first) rows_are ∙ take-map (grown a b) first rows

    counts : All (λ bits. length bits ≡ length old) (take first rows)
    counts = All-weaker (IsRow old) (λ bits. length bits ≡ length old) (λ bits row. row.count) (take first rows) (All-take (IsRow old) first rows all)

    older : AreSignatures (take first rows') signatures
    older k x at =
        let low = slice_get_within signatures k x at in
        let count = is.count_is in
        is.each k x at ∙ sym (signature_grows (take first rows) (length old) k a b counts (omega (arith, low, count))) ∙ ap (λ list. signature_at list k) (sym front)
