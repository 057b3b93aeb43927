use Rattle.std.proofs.Common.{◌≡◌, ◌+◌, true, List, [], ◌∷◌, ◌++◌, codes, length, if◌then◌else◌, refl, sym, ap, subst, ◌∙◌}
use Rattle.std.proofs.Common.{append-nil, append_assoc, arith}
use Rattle.yaml_styled.proofs.{Prelude.{IfOk-weaker, chars, Members, Tree, spaces, keys_differ, chars-literal}, NameLemmas.{Key, own_keys}}
use Rattle.yaml_styled.proofs.{ValueLemmas.value_below, RowLemmas.{no_elements, no_members, element_more, element_last, member_more}}
use Rattle.yaml_styled.{proofs.RowLemmas.member_last, specs.{Taking.Took, Names.named, Parts.{elements_and, members_and}}}
use Rattle.yaml_styled.proofs.read.+reading.Goals as goal

pub read_below-returns-clause-read : goal.read_below-returns-clause-read
read_below-returns-clause-read g t c =
    let a = c.args.lines.now in
    let b = c.take.new.self in
    let feed = subst (λ cs. Took a.rest.now a.counted cs 0 b.rest.now b.counted) (chars-literal (codes "\n") refl) c.in_ok-take.ensures in
    IfOk-weaker c.read_rows.result _ _
    (λ made read. value_below {Is = g.V.Build.Means made} {i = c.args.indent} feed c.in_ok-indent.ensures read)
    c.read_rows.ensures.read

-- what is added after parts that stayed as they were
module _ {Part Parts Whole : Type 0} (Are : List Part → List Part → Parts → Type 0) (Is : Whole → Type 0)
    (and : Parts → Whole → Parts) (before more : List Part) where
  after_same : {old now : List Part} → now ≡ old
      → ((first : List Part) (ps : Parts) (t : Whole) → Are first now ps → Is t → Are first more (and ps t))
      → (ps : Parts) (t : Whole) → Are before old ps → Is t → Are before more (and ps t)
  after_same same added ps t are is = added before ps t (subst (λ parts. Are before parts ps) (sym same) are) is

-- ---- elements

pub read_elements-rows-init : goal.read_elements-rows-init
read_elements-rows-init g t c =
    let a = c.args.lines.now in (
      no_elements (c.args.levels + 1) c.args.indent a.rest.now a.counted c.elements_start-start.ensures.none,
      refl,
      omega arith,
      refl,
    )

pub read_elements-rows-preserved : goal.read_elements-rows-preserved
read_elements-rows-preserved g t c =
    let first = g.V.Build.elements c.args.pending.now in
    let last = g.V.Build.elements c.add_element.new.pending in
    let adds = after_same g.V.Build.MeansElements (g.V.Build.Means c.in_ok-element.element) elements_and first last
    c.in_ok-element.ensures.elements c.in_ok-add_element.ensures.added in
    let a = c.rows.lines in
    let b = c.take.new.self in
    let d = c.read_element.new.lines in
    let e = c.next_row.new.self in
    let dash = subst (λ cs. Took a.rest.now a.counted cs 0 b.rest.now b.counted) (chars-literal (codes "- ") refl) c.in_ok-take.ensures in
    let next = subst (λ more. Took d.rest.now d.counted (if more then spaces c.args.indent else [])
    (if more then 1 else 0) e.rest.now e.counted) c.if-not-more.false c.in_ok-more.ensures in (
      element_more adds c.rows.invariant.0 dash
          c.in_ok-element.ensures.read next,
      c.in_ok-element.ensures.keys ∙ c.rows.invariant.1,
      omega (arith, ap length c.in_ok-element.ensures.elements, c.in_ok-add_element.ensures.longer, c.rows.invariant.2),
      c.in_ok-add_element.ensures.members ∙ c.in_ok-element.ensures.members ∙ c.rows.invariant.3,
    )

pub read_elements-end_sequence-requires : goal.read_elements-end_sequence-requires
read_elements-end_sequence-requires g t c =
    omega (
      arith,
      ap length c.in_ok-element.ensures.elements,
      c.in_ok-add_element.ensures.longer,
      c.rows.invariant.2,
      c.elements_start-start.ensures.place,
    )

pub read_elements-returns-then-not-more-clause-elements : goal.read_elements-returns-then-not-more-clause-elements
read_elements-returns-then-not-more-clause-elements g t c =
    let first = g.V.Build.elements c.args.pending.now in
    let last = g.V.Build.elements c.add_element.new.pending in
    let adds = after_same g.V.Build.MeansElements (g.V.Build.Means c.in_ok-element.element) elements_and first last
    c.in_ok-element.ensures.elements c.in_ok-add_element.ensures.added in
    let started = c.rows.invariant.0 in
    let read = c.in_ok-element.ensures.read in
    c.in_ok-made.ensures.left first (elements_and started.elements read.tree)
    c.elements_start-start.ensures.place
    (adds started.elements read.tree started.are read.is)

pub read_elements-returns-then-not-more-clause-members : goal.read_elements-returns-then-not-more-clause-members
read_elements-returns-then-not-more-clause-members g t c =
    c.in_ok-made.ensures.members ∙ c.in_ok-add_element.ensures.members ∙ c.in_ok-element.ensures.members ∙ c.rows.invariant.3

pub read_elements-returns-then-not-more-clause-read : goal.read_elements-returns-then-not-more-clause-read
read_elements-returns-then-not-more-clause-read g t c =
    let first = g.V.Build.elements c.args.pending.now in
    let last = g.V.Build.elements c.add_element.new.pending in
    let adds = after_same g.V.Build.MeansElements (g.V.Build.Means c.in_ok-element.element) elements_and first last
    c.in_ok-element.ensures.elements c.in_ok-add_element.ensures.added in
    let a = c.rows.lines in
    let b = c.take.new.self in
    let d = c.read_element.new.lines in
    let e = c.next_row.new.self in
    let dash = subst (λ cs. Took a.rest.now a.counted cs 0 b.rest.now b.counted) (chars-literal (codes "- ") refl) c.in_ok-take.ensures in
    let next = subst (λ more. Took d.rest.now d.counted (if more then spaces c.args.indent else [])
    (if more then 1 else 0) e.rest.now e.counted) c.if-not-more.true c.in_ok-more.ensures in
    element_last (c.args.levels + 2) (omega arith)
    adds c.rows.invariant.0 dash
    c.in_ok-element.ensures.read next
    (λ ts are. c.in_ok-made.ensures.made first ts c.elements_start-start.ensures.place are)

-- ---- members

pub read_members-rows-init : goal.read_members-rows-init
read_members-rows-init g t c =
    let a = c.args.lines.now in (
      [],
      sym (append-nil c.args.keys.now.keys.items),
      no_members (c.args.levels + 1) c.args.indent a.rest.now a.counted c.members_start-start.ensures.none,
      omega arith,
      refl,
    )

-- a key is added after others that were added
added : (all before own more : List Key) (key : Key) → all ≡ before ++ own → more ≡ all ++ key ∷ [] → more ≡ before ++ (own ++ key ∷ [])
added all before own more key e add = add ∙ ap (λ keys. keys ++ key ∷ []) e ∙ append_assoc before own (key ∷ [])

pub read_members-rows-preserved : goal.read_members-rows-preserved
read_members-rows-preserved g t c =
    let first = g.V.Build.members c.args.pending.now in
    let last = g.V.Build.members c.add_member.new.pending in
    let and = λ (ms : Members) (t : Tree). members_and ms (chars c.in_ok-key.key.now) t in
    let adds = after_same g.V.Build.MeansMembers (g.V.Build.Means c.in_ok-value.value) and first last
    c.in_ok-value.ensures.members c.in_ok-add_member.ensures.added in
    let before = c.args.keys.now.keys.items in
    let own = c.rows.invariant.0 in
    let key = c.in_ok-key.key in
    let d = c.read_value_lines.new.lines in
    let e = c.next_row.new.self in
    let next = subst (λ more. Took d.rest.now d.counted (if more then spaces c.args.indent else [])
    (if more then 1 else 0) e.rest.now e.counted) c.if-not-more.false c.in_ok-more.ensures in (
      own ++ key ∷ [],
      c.in_ok-value.ensures.keys ∙ added c.rows.keys.keys.items before own _ key c.rows.invariant.1 c.in_ok-add.ensures.added,
      member_more key c.in_ok-add.ensures.text adds
          c.rows.invariant.2 c.in_ok-key.ensures c.in_ok-value.ensures.read next,
      omega (arith, ap length c.in_ok-value.ensures.members, c.in_ok-add_member.ensures.longer, c.rows.invariant.3),
      c.in_ok-add_member.ensures.elements ∙ c.in_ok-value.ensures.elements ∙ c.rows.invariant.4,
    )

pub read_members-end_mapping-requires : goal.read_members-end_mapping-requires
read_members-end_mapping-requires g t c =
    omega (
      arith,
      ap length c.in_ok-value.ensures.members,
      c.in_ok-add_member.ensures.longer,
      c.rows.invariant.3,
      c.members_start-start.ensures.place,
    )

pub read_members-returns-then-not-more-clause-members : goal.read_members-returns-then-not-more-clause-members
read_members-returns-then-not-more-clause-members g t c =
    let first = g.V.Build.members c.args.pending.now in
    let last = g.V.Build.members c.add_member.new.pending in
    let and = λ (ms : Members) (t : Tree). members_and ms (chars c.in_ok-key.key.now) t in
    let adds = after_same g.V.Build.MeansMembers (g.V.Build.Means c.in_ok-value.value) and first last
    c.in_ok-value.ensures.members c.in_ok-add_member.ensures.added in
    let started = c.rows.invariant.2 in
    let read = c.in_ok-value.ensures.read in
    c.in_ok-made.ensures.left first (members_and started.members (chars c.in_ok-key.key.now) read.tree)
    c.members_start-start.ensures.place
    (adds started.members read.tree started.are read.is)

pub read_members-returns-then-not-more-clause-elements : goal.read_members-returns-then-not-more-clause-elements
read_members-returns-then-not-more-clause-elements g t c =
    c.in_ok-made.ensures.elements ∙ c.in_ok-add_member.ensures.elements ∙ c.in_ok-value.ensures.elements ∙ c.rows.invariant.4

pub read_members-returns-then-not-more-clause-read : goal.read_members-returns-then-not-more-clause-read
read_members-returns-then-not-more-clause-read g t c =
    let first = g.V.Build.members c.args.pending.now in
    let last = g.V.Build.members c.add_member.new.pending in
    let and = λ (ms : Members) (t : Tree). members_and ms (chars c.in_ok-key.key.now) t in
    let adds = after_same g.V.Build.MeansMembers (g.V.Build.Means c.in_ok-value.value) and first last
    c.in_ok-value.ensures.members c.in_ok-add_member.ensures.added in
    let before = c.args.keys.now.keys.items in
    let own = c.rows.invariant.0 in
    let key = c.in_ok-key.key in
    let d = c.read_value_lines.new.lines in
    let e = c.next_row.new.self in
    let next = subst (λ more. Took d.rest.now d.counted (if more then spaces c.args.indent else [])
    (if more then 1 else 0) e.rest.now e.counted) c.if-not-more.true c.in_ok-more.ensures in
    let all = c.read_value_lines.new.keys.keys.items in
    let stands = c.in_ok-value.ensures.keys
    ∙ added c.rows.keys.keys.items before own _ key c.rows.invariant.1 c.in_ok-add.ensures.added in
    let mine = own_keys all before (own ++ key ∷ []) c.count-from.result c.count-from.ensures stands in
    let differ = subst (λ keys. keys_differ (named keys) ≡ true) mine c.in_ok-close.ensures.differ in
    member_last key (c.args.levels + 2) (omega arith) c.in_ok-add.ensures.text
    adds c.rows.invariant.2
    c.in_ok-key.ensures c.in_ok-value.ensures.read next differ
    (λ ms are. c.in_ok-made.ensures.made first ms c.members_start-start.ensures.place are)
