mod Due
