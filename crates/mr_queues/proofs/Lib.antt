mod Turned
mod OneKind
mod Rooming
mod SameKind
