mod EqualIsSame
mod SameIsEqual
