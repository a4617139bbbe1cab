-- Texts that the definition must have, and the events of each in words.
use Rattle.std.specs.Prelude.{ℕ, List, [], ◌∷◌, ◌++◌, codes}
use Rattle.yaml_grammar.specs.Shown.{HasEvents, HasMarks}

-- the text of the README
abbrev pub readme_text : List ℕ
readme_text =
    codes "name: &n web\n"
    ++ codes "port: 8080\n"
    ++ codes "tags: [*n, a]\n"

-- its events
abbrev pub readme_text_events : List ℕ
readme_text_events =
    codes " +STR +DOC +MAP =VAL :name =VAL &n :web =VAL :port =VAL :8080 =VAL :tags +SEQ =ALI *n =VAL :a"
    ++ codes " -SEQ -MAP -DOC -STR"

-- lists in a table and tables in a list, with comments
abbrev pub lists_and_tables : List ℕ
lists_and_tables =
    codes "# what is sold\n"
    ++ codes "fruit:   # by the piece\n"
    ++ codes "  - apple\n"
    ++ codes "  - pear\n"
    ++ codes "tools:\n"
    ++ codes "- name: hammer\n"
    ++ codes "  weight: 800\n"
    ++ codes "-\n"
    ++ codes "  name: saw\n"
    ++ codes "# the end\n"

-- its events
abbrev pub lists_and_tables_events : List ℕ
lists_and_tables_events =
    codes " +STR +DOC +MAP =VAL :fruit +SEQ =VAL :apple =VAL :pear -SEQ =VAL :tools +SEQ +MAP =VAL :name"
    ++ codes " =VAL :hammer =VAL :weight =VAL :800 -MAP +MAP =VAL :name =VAL :saw -MAP -SEQ -MAP -DOC -STR"

-- scalars of each style, in one line and over lines
abbrev pub kinds_of_scalars : List ℕ
kinds_of_scalars =
    codes "plain: one line\n"
    ++ codes "  and another\n"
    ++ codes "\n"
    ++ codes "  and a third\n"
    ++ codes "single: 'it''s\n"
    ++ codes "  quoted'\n"
    ++ codes "double: \"tab\\there \\\n"
    ++ codes "  \\x41\"\n"
    ++ codes "literal: |-\n"
    ++ codes "  a\n"
    ++ codes "    b\n"
    ++ codes "\n"
    ++ codes "  c\n"
    ++ codes "folded: >\n"
    ++ codes "  one\n"
    ++ codes "  two\n"
    ++ codes "\n"
    ++ codes "  three\n"
    ++ codes "\n"
    ++ codes "   deep\n"
    ++ codes "  four\n"
    ++ codes "kept: |1+\n"
    ++ codes "\n"
    ++ codes "  x\n"
    ++ codes "\n"

-- its events
abbrev pub kinds_of_scalars_events : List ℕ
kinds_of_scalars_events =
    codes " +STR +DOC +MAP =VAL :plain =VAL :one line and another\\nand a third =VAL :single"
    ++ codes " =VAL 'it's quoted =VAL :double =VAL \"tab\\there A =VAL :literal =VAL |a\\n  b\\n\\nc"
    ++ codes " =VAL :folded =VAL >one two\\nthree\\n\\n deep\\nfour\\n =VAL :kept =VAL |\\n x\\n\\n -MAP -DOC"
    ++ codes " -STR"

-- collections in brackets, over lines, with pairs and with keys alone
abbrev pub brackets : List ℕ
brackets =
    codes "{a: [1, 2,\n"
    ++ codes "     3], \"b\":c, d, e: , [f]: {},\n"
    ++ codes " g: [x: y, 'z': ], # c\n"
    ++ codes " h: one\n"
    ++ codes "  text, }\n"

-- its events
abbrev pub brackets_events : List ℕ
brackets_events =
    codes " +STR +DOC +MAP =VAL :a +SEQ =VAL :1 =VAL :2 =VAL :3 -SEQ =VAL \"b =VAL :c =VAL :d =VAL :"
    ++ codes " =VAL :e =VAL : +SEQ =VAL :f -SEQ +MAP -MAP =VAL :g +SEQ +MAP =VAL :x =VAL :y -MAP +MAP =VAL 'z"
    ++ codes " =VAL : -MAP -SEQ =VAL :h =VAL :one text -MAP -DOC -STR"

-- anchors, tags, aliases and keys behind `?`
abbrev pub names_and_keys : List ℕ
names_and_keys =
    codes "&root\n"
    ++ codes "? !!str &k key\n"
    ++ codes ": !point {x: 1}\n"
    ++ codes "? - a\n"
    ++ codes "  - b\n"
    ++ codes ": - *k\n"
    ++ codes "  - ! '1'\n"
    ++ codes "  - !a%20b\n"
    ++ codes "? alone\n"
    ++ codes "*k : &v\n"
    ++ codes "  - !<tag:x,1> y\n"
    ++ codes "e: &e\n"
    ++ codes "\"f\": !t\n"
    ++ codes "[g]: h\n"

-- its events
abbrev pub names_and_keys_events : List ℕ
names_and_keys_events =
    codes " +STR +DOC +MAP &root =VAL &k <tag:yaml.org,2002:str> :key +MAP <!point> =VAL :x =VAL :1 -MAP"
    ++ codes " +SEQ =VAL :a =VAL :b -SEQ +SEQ =ALI *k =VAL <!> '1 =VAL <!a b> : -SEQ =VAL :alone =VAL :"
    ++ codes " =ALI *k +SEQ &v =VAL <tag:x,1> :y -SEQ =VAL :e =VAL &e : =VAL \"f =VAL <!t> : +SEQ =VAL :g -SEQ"
    ++ codes " =VAL :h -MAP -DOC -STR"

-- several documents
abbrev pub documents : List ℕ
documents =
    codes "%YAML 1.2\n"
    ++ codes "---\n"
    ++ codes "a\n"
    ++ codes "...\n"
    ++ codes "# between\n"
    ++ codes "--- # empty\n"
    ++ codes "---\n"
    ++ codes "- b\n"
    ++ codes "--- |\n"
    ++ codes " c\n"
    ++ codes "--- \"d\"\n"
    ++ codes "...\n"

-- its events
abbrev pub documents_events : List ℕ
documents_events =
    codes " +STR +DOC =VAL :a -DOC +DOC =VAL : -DOC +DOC +SEQ =VAL :b -SEQ -DOC +DOC =VAL |c\\n -DOC +DOC"
    ++ codes " =VAL \"d -DOC -STR"

-- services and their parts
abbrev pub compose_file : List ℕ
compose_file =
    codes "services:\n"
    ++ codes "  web:\n"
    ++ codes "    image: \"nginx:1.27\"\n"
    ++ codes "    ports: [\"8080:80\"]\n"
    ++ codes "    environment:\n"
    ++ codes "      - MODE=fast\n"
    ++ codes "      - URL=http://db:5432/x#y\n"
    ++ codes "    depends_on:\n"
    ++ codes "      db: {condition: started}\n"
    ++ codes "  db:\n"
    ++ codes "    image: postgres\n"
    ++ codes "    command: >-\n"
    ++ codes "      postgres\n"
    ++ codes "      -c fsync=off\n"
    ++ codes "\n"
    ++ codes "volumes:\n"
    ++ codes "  data:\n"

-- its events
abbrev pub compose_file_events : List ℕ
compose_file_events =
    codes " +STR +DOC +MAP =VAL :services +MAP =VAL :web +MAP =VAL :image =VAL \"nginx:1.27 =VAL :ports"
    ++ codes " +SEQ =VAL \"8080:80 -SEQ =VAL :environment +SEQ =VAL :MODE=fast =VAL :URL=http://db:5432/x#y"
    ++ codes " -SEQ =VAL :depends_on +MAP =VAL :db +MAP =VAL :condition =VAL :started -MAP -MAP -MAP =VAL :db"
    ++ codes " +MAP =VAL :image =VAL :postgres =VAL :command =VAL >postgres -c fsync=off -MAP -MAP"
    ++ codes " =VAL :volumes +MAP =VAL :data =VAL : -MAP -MAP -DOC -STR"

-- a workflow
abbrev pub workflow_file : List ℕ
workflow_file =
    codes "name: Build\n"
    ++ codes "on:\n"
    ++ codes "  push:\n"
    ++ codes "    branches: [ main, \"v*\" ]\n"
    ++ codes "jobs:\n"
    ++ codes "  test:\n"
    ++ codes "    runs-on: ${{ matrix.os }}\n"
    ++ codes "    strategy:\n"
    ++ codes "      matrix:\n"
    ++ codes "        os: [linux, mac]\n"
    ++ codes "    steps:\n"
    ++ codes "      - uses: tools/checkout@v4\n"
    ++ codes "      - name: Run\n"
    ++ codes "        run: |\n"
    ++ codes "          make all\n"
    ++ codes "          if test \"$X\" = 1; then\n"
    ++ codes "            make more   # slow\n"
    ++ codes "          fi\n"
    ++ codes "        env: { X: 1 }\n"

-- its events
abbrev pub workflow_file_events : List ℕ
workflow_file_events =
    codes " +STR +DOC +MAP =VAL :name =VAL :Build =VAL :on +MAP =VAL :push +MAP =VAL :branches +SEQ"
    ++ codes " =VAL :main =VAL \"v* -SEQ -MAP -MAP =VAL :jobs +MAP =VAL :test +MAP =VAL :runs-on"
    ++ codes " =VAL :${{ matrix.os }} =VAL :strategy +MAP =VAL :matrix +MAP =VAL :os +SEQ =VAL :linux"
    ++ codes " =VAL :mac -SEQ -MAP -MAP =VAL :steps +SEQ +MAP =VAL :uses =VAL :tools/checkout@v4 -MAP +MAP"
    ++ codes " =VAL :name =VAL :Run =VAL :run"
    ++ codes " =VAL |make all\\nif test \"$X\" = 1; then\\n  make more   # slow\\nfi\\n =VAL :env +MAP =VAL :X"
    ++ codes " =VAL :1 -MAP -MAP -SEQ -MAP -MAP -MAP -DOC -STR"

-- a list of objects, with lists in their mappings' columns
abbrev pub list_of_objects : List ℕ
list_of_objects =
    codes "apiVersion: v1\n"
    ++ codes "kind: List\n"
    ++ codes "items:\n"
    ++ codes "- apiVersion: v1\n"
    ++ codes "  kind: Service\n"
    ++ codes "  metadata:\n"
    ++ codes "    name: web\n"
    ++ codes "    labels: &l\n"
    ++ codes "      app: web\n"
    ++ codes "  spec:\n"
    ++ codes "    selector: *l\n"
    ++ codes "    ports:\n"
    ++ codes "    - port: 80\n"
    ++ codes "      name: http\n"
    ++ codes "- kind: ConfigMap\n"
    ++ codes "  data:\n"
    ++ codes "    conf: |\n"
    ++ codes "      a=1\n"
    ++ codes "      b=2\n"

-- its events
abbrev pub list_of_objects_events : List ℕ
list_of_objects_events =
    codes " +STR +DOC +MAP =VAL :apiVersion =VAL :v1 =VAL :kind =VAL :List =VAL :items +SEQ +MAP"
    ++ codes " =VAL :apiVersion =VAL :v1 =VAL :kind =VAL :Service =VAL :metadata +MAP =VAL :name =VAL :web"
    ++ codes " =VAL :labels +MAP &l =VAL :app =VAL :web -MAP -MAP =VAL :spec +MAP =VAL :selector =ALI *l"
    ++ codes " =VAL :ports +SEQ +MAP =VAL :port =VAL :80 =VAL :name =VAL :http -MAP -SEQ -MAP -MAP +MAP"
    ++ codes " =VAL :kind =VAL :ConfigMap =VAL :data +MAP =VAL :conf =VAL |a=1\\nb=2\\n -MAP -MAP -SEQ -MAP"
    ++ codes " -DOC -STR"

-- nestings in a line, things that are missing, and a text that ends in blanks
abbrev pub odd_ends : List ℕ
odd_ends =
    codes "- - - a\n"
    ++ codes "  -\n"
    ++ codes "    - b:\n"
    ++ codes "- ? c\n"
    ++ codes "  : d:\n"
    ++ codes "    e: -f\n"
    ++ codes "- \"\": ''\n"
    ++ codes "- k:\n"
    ++ codes "  - ?\n"
    ++ codes "  "

-- its events
abbrev pub odd_ends_events : List ℕ
odd_ends_events =
    codes " +STR +DOC +SEQ +SEQ +SEQ =VAL :a -SEQ +SEQ +MAP =VAL :b =VAL : -MAP -SEQ -SEQ +MAP =VAL :c +MAP"
    ++ codes " =VAL :d =VAL : =VAL :e =VAL :-f -MAP -MAP +MAP =VAL \" =VAL ' -MAP +MAP =VAL :k +SEQ +MAP"
    ++ codes " =VAL : =VAL : -MAP -SEQ -MAP -SEQ -DOC -STR"

-- a text with a character of two bytes in its first line, whose last line does not end
abbrev pub marked_text : List ℕ
marked_text =
    0xC3 ∷ 0xA9 ∷ codes ": [a]\n"
    ++ codes "k:\n"
    ++ codes " - b\n"
    ++ codes "  "

-- the marks of its events: an index, a line and a column
abbrev pub marks_of_text : List (ℕ × (ℕ × ℕ))
marks_of_text =
    (0, (0, 0)) ∷ (0, (0, 0)) ∷ (0, (0, 0)) ∷ (0, (0, 0)) ∷ (4, (0, 3)) ∷ (5, (0, 4)) ∷ (6, (0, 5)) ∷ (8, (1, 0))
    ∷ (12, (2, 1)) ∷ (14, (2, 3)) ∷ (18, (4, 0)) ∷ (18, (4, 0)) ∷ (18, (4, 0)) ∷ (18, (4, 0)) ∷ []

-- each of the texts has its events
pub record TheseTextsStand : Type 0 where
  pub readme : HasEvents readme_text readme_text_events
  pub lists : HasEvents lists_and_tables lists_and_tables_events
  pub scalars : HasEvents kinds_of_scalars kinds_of_scalars_events
  pub in_brackets : HasEvents brackets brackets_events
  pub names : HasEvents names_and_keys names_and_keys_events
  pub several : HasEvents documents documents_events
  pub compose : HasEvents compose_file compose_file_events
  pub workflow : HasEvents workflow_file workflow_file_events
  pub objects : HasEvents list_of_objects list_of_objects_events
  pub ends : HasEvents odd_ends odd_ends_events
  pub marks : HasMarks marked_text marks_of_text
