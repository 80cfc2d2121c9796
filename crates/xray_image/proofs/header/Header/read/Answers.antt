use Rattle.std.proofs.Common.{◌≡◌, ◌<◌, inl, inr, arith}
use Rattle.std.specs.Prelude.{codes}
use Rattle.xray_image.specs.Container.{magic}
use Rattle.xray_image.proofs.HeaderRows.{magic_is, version_other, code_beyond, functions_beyond, sleds_beyond, entry_beyond, base_beyond}
use Rattle.xray_image.proofs.header.Header.read.Goals as goal
use Rattle.xray_image.proofs.header.Header.read.Goals.{then-header-ne0-via-then-header-ne0, then-header-ne0-via-else-header-ne0+then-header-gt-BASE_LIMIT}

pub returns-then-header-ne-VERSION-clause-refused : goal.returns-then-header-ne-VERSION-clause-refused
returns-then-header-ne-VERSION-clause-refused c =
    version_other c.args.bytes.now c.fields-header.result c.fields-header.ensures c.if-bytes-lt-HEADER_LENGTH.false
    (magic_is c.args.bytes.now c.if-not-starts_with.ensures.value) c.if-header-ne-VERSION.true

pub returns-then-header-gt-CODE_LIMIT-clause-refused : goal.returns-then-header-gt-CODE_LIMIT-clause-refused
returns-then-header-gt-CODE_LIMIT-clause-refused c =
    code_beyond c.args.bytes.now c.fields-header.result c.fields-header.ensures c.if-bytes-lt-HEADER_LENGTH.false
    (magic_is c.args.bytes.now c.if-not-starts_with.ensures.value) c.if-header-ne-VERSION.false c.if-header-gt-CODE_LIMIT.true

pub returns-then-header-eq0-clause-refused : goal.returns-then-header-eq0-clause-refused
returns-then-header-eq0-clause-refused c =
    let begins : magic c.args.bytes.now ≡ codes "XRIM" = magic_is c.args.bytes.now c.if-not-starts_with.ensures.value in
    functions_beyond c.args.bytes.now c.fields-header.result c.fields-header.ensures c.if-bytes-lt-HEADER_LENGTH.false begins
    c.if-header-ne-VERSION.false c.if-header-gt-CODE_LIMIT.false c.then-header-eq0.either

pub returns-then-header-gt-SLED_LIMIT-clause-refused : goal.returns-then-header-gt-SLED_LIMIT-clause-refused
returns-then-header-gt-SLED_LIMIT-clause-refused c =
    let begins : magic c.args.bytes.now ≡ codes "XRIM" = magic_is c.args.bytes.now c.if-not-starts_with.ensures.value in
    let some : 0 < c.fields-header.result.functions = let none = c.if-header-eq0.false in omega arith in
    sleds_beyond c.args.bytes.now c.fields-header.result c.fields-header.ensures c.if-bytes-lt-HEADER_LENGTH.false begins
    c.if-header-ne-VERSION.false c.if-header-gt-CODE_LIMIT.false (some, c.if-header-gt-FUNCTION_LIMIT.false) c.if-header-gt-SLED_LIMIT.true

pub returns-then-header-clause-refused : goal.returns-then-header-clause-refused
returns-then-header-clause-refused c =
    let begins : magic c.args.bytes.now ≡ codes "XRIM" = magic_is c.args.bytes.now c.if-not-starts_with.ensures.value in
    let some : 0 < c.fields-header.result.functions = let none = c.if-header-eq0.false in omega arith in
    entry_beyond c.args.bytes.now c.fields-header.result c.fields-header.ensures c.if-bytes-lt-HEADER_LENGTH.false begins
    c.if-header-ne-VERSION.false c.if-header-gt-CODE_LIMIT.false (some, c.if-header-gt-FUNCTION_LIMIT.false) c.if-header-gt-SLED_LIMIT.false c.if-header.true

pub returns-then-header-ne0-clause-refused : goal.returns-then-header-ne0-clause-refused
returns-then-header-ne0-clause-refused c =
    let begins : magic c.args.bytes.now ≡ codes "XRIM" = magic_is c.args.bytes.now c.if-not-starts_with.ensures.value in
    let some : 0 < c.fields-header.result.functions = let none = c.if-header-eq0.false in omega arith in
    base_beyond c.args.bytes.now c.fields-header.result c.fields-header.ensures c.if-bytes-lt-HEADER_LENGTH.false begins
    c.if-header-ne-VERSION.false c.if-header-gt-CODE_LIMIT.false (some, c.if-header-gt-FUNCTION_LIMIT.false) c.if-header-gt-SLED_LIMIT.false c.if-header.false
    (elim c.then-header-ne0.branch [ then-header-ne0-via-then-header-ne0 w ↦ inl w.if-header-ne0.true | then-header-ne0-via-else-header-ne0+then-header-gt-BASE_LIMIT w ↦ inr (λ odd. odd w.if-header-ne0.false, w.if-header-gt-BASE_LIMIT.true) ])
